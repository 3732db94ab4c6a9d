use Rattle.catalogue.specs.Plan.{PlainItem, Run, Lose}
use Rattle.catalogue.specs.Plan as plan
use Rattle.catalogue.specs.Items.{plain_item}
use Rattle.catalogue.specs.PlanOf.{plan_of}
use Rattle.catalogue.specs.Sound.{IsFitItem}
use Rattle.catalogue.proofs.SoundLaws.{sound_item}
use Rattle.client_phase.specs.Fits.{HasNoFault}
use Rattle.fabric_core.proofs.runner.Runner.step.Goals as goal

no_fault : (plan : plan.Plan) (item : PlainItem) → IsFitItem plan item → HasNoFault item
no_fault plan (Run ops) fit = fit.script
no_fault plan Lose fit = tt

pub step_client-requires-clause-fault : goal.step_client-requires-clause-fault
step_client-requires-clause-fault c = no_fault (plan_of c.args.session.now) (plain_item c.args.item.now) (sound_item (plan_of c.args.session.now) c.args.client _ (plain_item c.args.item.now) c.requires.sound c.requires.item)
