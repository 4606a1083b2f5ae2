use Rattle.probe.proofs.ReportedImages.{report_put}
use Rattle.probe.proofs.edits.put_report.Goals as goal

pub returns : goal.returns
returns c = report_put c.args.removed c.args.out.now _ _ _ (rw c.from.ensures at c.put4.ensures) (rw c.from-2.ensures at c.put4-2.ensures) (rw c.from-3.ensures at c.put4-3.ensures)
