use Rattle.server_reports.specs.Step1.{report, report_fits}
use Rattle.server_reports.proofs.Cases.{UpTo}
use Rattle.server_reports.proofs.take_reports.Given as goal

abbrev pub invariant-loop-r : goal.invariant-loop-r
invariant-loop-r l = UpTo report_fits report l.reports l.fn.s l.r-index l.now
