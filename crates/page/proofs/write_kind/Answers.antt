use Rattle.page.proofs.LineLaws.{line_is}
use Rattle.page.proofs.write_kind.Goals as goal

pub returns : goal.returns
returns c = rw (← (line_is _ _ c.line.ensures).0) c.write.ensures
