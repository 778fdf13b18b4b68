use Rattle.acts.proofs.ActsLaws.{added, edited, deleted, messaged, gave_up, showed, unknown}
use Rattle.acts.proofs.does.Goals as goal

pub returns-in-Add : goal.returns-in-Add
returns-in-Add g c = λ d h l. added g.S.Commanded.side d c.args.out.now c.args.line.now h _ c.in-Add.is c.rest.ensures c.adds.ensures

pub returns-in-Edit : goal.returns-in-Edit
returns-in-Edit g c = λ d h l. edited g.S.Commanded.side d c.args.out.now c.args.line.now h _ c.in-Edit.is c.rest-in-Edit.ensures c.edits.ensures

pub returns-in-Delete : goal.returns-in-Delete
returns-in-Delete g c = λ d h l. deleted g.S.Commanded.side d c.args.out.now c.args.line.now h _ c.in-Delete.is c.deletes.ensures

pub returns-in-Message : goal.returns-in-Message
returns-in-Message g c = λ d h l. messaged g.S.Commanded.side d c.args.out.now c.args.line.now h c.in-Message.is c.rest-in-Message.ensures (c.hears.ensures d h l)

pub returns-in-GiveUp : goal.returns-in-GiveUp
returns-in-GiveUp g c = λ d h l. gave_up g.S.Commanded.side d c.args.out.now c.args.line.now h c.in-GiveUp.is c.gives_up.ensures

pub returns-in-Tables : goal.returns-in-Tables
returns-in-Tables g c = λ d h l. showed g.S.Commanded.side d c.args.out.now c.args.line.now h (g.met.S.Commanded.stays d) c.in-Tables.is c.put_block.ensures

pub returns-in-Unknown : goal.returns-in-Unknown
returns-in-Unknown g c = λ d h l. unknown g.S.Commanded.side d c.args.out.now c.args.line.now h (g.met.S.Commanded.stays d) c.in-Unknown.is
