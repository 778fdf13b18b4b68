use mathlib.Core.Path.{sym, ◌∙◌}
use native.Mathlib.Omega.{arith}
use borrow.Author.Rules.{rules}
use Rattle.places.specs.Set.{all_places}
use Rattle.records.specs.Server.{no_record}
use Rattle.image.proofs.FlatLaws.{filled_more, filled_all, each_long, each_get}
use Rattle.server_image.specs.Image.{head_size, record_size, record_in, records_in}
use Rattle.server_image.proofs.records_at.Goals as goal

pub loop-i-preserved : goal.loop-i-preserved
loop-i-preserved c =
    let l = c.loop-i in
    let s = c.args.s.now in
    let n = each_long record_in record_size s head_size all_places in
    (search rules, filled_more (records_in s) l.places l.i c.record_at.result no_record (omega (arith, n)) (omega arith) (c.record_at.ensures ∙ sym (each_get record_in record_size s head_size all_places l.i no_record c.loop-i-test.true)) l.invariant.1)

pub returns : goal.returns
returns c =
    let l = c.loop-i in
    let s = c.args.s.now in
    filled_all (records_in s) l.places l.i all_places l.invariant.0 (each_long record_in record_size s head_size all_places) c.loop-i-test.false l.invariant.1
