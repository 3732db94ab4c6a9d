-- The text that is printed of a run.
use Rattle.std.specs.Prelude.{ℕ, List}
use Rattle.catalogue.specs.Plan.{Plan}
use Rattle.catalogue.specs.declared.actor.Actor.{Actor}
use Rattle.fabric_model.specs.State.{State}
use Rattle.report_text.specs.ReportText.{report}
use Rattle.report_text.specs.RunReport.{run_report}
use Rattle.report_text.specs.Summary.{run_summary, summary_text}
use Rattle.p4db_top.specs.declared.output.Output.{Output}
use Rattle.p4db_top.specs.declared.output.Output.TheVariants.{Report, Summary}

-- that of a state of the session that this trace made
abbrev pub output_text : Output → Plan → State → List Actor → List ℕ
output_text Report session s trace = report (run_report session s trace)
output_text Summary session s trace = summary_text (run_summary session s trace)
