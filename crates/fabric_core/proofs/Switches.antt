-- The switch of a run: it is up, or lost.
use Rattle.std.proofs.Common.{◌≡◌, Bool, true, false, Option, sym, ◌∙◌}
use Rattle.switch_model.specs.Switch.{Switch}
use Rattle.pipeline.specs.Plain.{PlainPipeline}
use Rattle.catalogue.specs.Plan.{Plan}
use Rattle.fabric_core.specs.Standing.{IsUp, IsLost, IsSwitch}

two_ways : {b : Bool} → b ≡ true → b ≡ false → ⊥
two_ways is isnt = let clash : true ≡ false = sym is ∙ isnt in cc

-- it is up
pub is_switch : {plan : Plan} {switch : Option Switch} {is_up : Bool} {pipeline : PlainPipeline} → is_up ≡ true → IsUp plan switch pipeline → IsSwitch plan switch is_up pipeline
is_switch is up = record { up = λ _. up; lost = λ isnt. absurd (two_ways is isnt) }

-- it is lost
pub is_lost : {plan : Plan} {switch : Option Switch} {is_up : Bool} {pipeline : PlainPipeline} → is_up ≡ false → IsLost plan switch pipeline → IsSwitch plan switch is_up pipeline
is_lost isnt lost = record { up = λ is. absurd (two_ways is isnt); lost = λ _. lost }
