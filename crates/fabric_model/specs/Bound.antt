-- How many moves a session takes at most, and how many are left at most in a state.
use Rattle.std.specs.Prelude.{ℕ, ◌+◌, ◌-◌, ◌*◌, ◌==◌, if◌then◌else◌, List, [], ◌∷◌, length, drop, Option, Some, None}
use Rattle.txn_model.specs.declared.op.Op.{Op}
use Rattle.switch_model.specs.Switch.{Switch}
use Rattle.switch_model.specs.Laws.{left}
use Rattle.stage_layout.specs.Passes.{plan_of, greatest}
use Rattle.warm_split.specs.Resolved.{planned_ops}
use Rattle.catalogue.specs.Plan.{Plan, PlainItem, Run, Lose, items_of, item_of}
use Rattle.core_model.specs.declared.phase.Phase.{Phase}
use Rattle.core_model.specs.declared.phase.Phase.TheVariants.{Ready, Locking, Aborting, Logged, Waiting, Installing, Finished}
use Rattle.core_model.specs.Locks.{cold_ops}
use Rattle.core_model.specs.State.{ClientState, script_now}
use Rattle.fabric_model.specs.State.{State}
use Rattle.fabric_model.specs.Step.{has_hot}

-- how many locks a script takes
abbrev pub lock_count : Plan → List Op → ℕ
lock_count plan ops = length (cold_ops plan.layout ops)

-- how many passes the packet of a script makes
abbrev pub pass_count : Plan → List Op → ℕ
pass_count plan ops = greatest (plan_of plan.shape (planned_ops plan.layout ops)).passes

-- the moves of a packet in the switch: in each pass, one to enter and one a stage
abbrev pub way_of : Plan → List Op → ℕ
way_of plan ops = pass_count plan ops * (1 + plan.shape.stages)

-- the moves of a script between its last lock and its first installation: it is decided, or its intent is logged, its packet
-- is posted, goes its way and is answered
abbrev pub commit_bound : Plan → List Op → ℕ
commit_bound plan ops = if has_hot plan ops then 3 + way_of plan ops else 1

-- of a script with so many tries behind its present one: with m locks, a refused try takes at most m - 1 of them, the refusal
-- and m - 1 releases; the last try takes m, the commit and m installations
abbrev pub script_bound : Plan → ℕ → List Op → ℕ
script_bound plan refused ops = let m = lock_count plan ops in refused * (2 * m - 1) + (2 * m + commit_bound plan ops)

-- of an item, when it begins
abbrev pub item_bound : Plan → PlainItem → ℕ
item_bound plan (Run ops) = script_bound plan (plan.tries - 1) ops
item_bound plan Lose = 2

abbrev pub items_bound : Plan → List PlainItem → ℕ
items_bound plan [] = 0
items_bound plan (item ∷ items) = item_bound plan item + items_bound plan items

abbrev pub clients_bound : Plan → List (List PlainItem) → ℕ
clients_bound plan [] = 0
clients_bound plan (items ∷ clients) = items_bound plan items + clients_bound plan clients

-- the most moves of a session
abbrev pub move_bound : Plan → ℕ
move_bound plan = clients_bound plan plan.clients

-- the tries of a script that are left, behind this many refused ones
abbrev pub tries_left : Plan → ℕ → List Op → ℕ
tries_left plan refused ops = if refused == plan.tries then 0 else script_bound plan (plan.tries - 1 - refused) ops

-- the recovery behind an item that loses the switch
abbrev pub recovery_of : Option PlainItem → ℕ
recovery_of None = 0
recovery_of (Some (Run ops)) = 0
recovery_of (Some Lose) = 1

-- what is left of a client's packet; nothing where the switch is lost, since it is answered by recovery
abbrev pub way_left : Plan → Option Switch → ℕ → ℕ
way_left plan None c = 0
way_left plan (Some now) c = left plan.shape now c

-- what is left of a client's present item: of one that loses the switch, whose script has no operations, its move and recovery
abbrev pub item_left : Plan → Option Switch → ℕ → ClientState → List Op → Phase → ℕ
item_left plan now c x ops Ready = recovery_of (item_of plan c x.seq) + (tries_left plan x.refused ops - length x.noted)
item_left plan now c x ops Locking = tries_left plan x.refused ops - length x.noted
item_left plan now c x ops Aborting = length x.noted + tries_left plan (x.refused + 1) ops
item_left plan now c x ops Logged = 2 + (way_of plan ops + lock_count plan ops)
item_left plan now c x ops Waiting = 1 + (way_left plan now c + lock_count plan ops)
item_left plan now c x ops Installing = lock_count plan ops - x.installed
item_left plan now c x ops Finished = 0

-- of a client: of its present item, and of those behind
abbrev pub client_left : Plan → Option Switch → ℕ → ClientState → ℕ
client_left plan now c x = item_left plan now c x (script_now plan c x) x.phase + items_bound plan (drop x.seq (items_of plan c))

-- of the clients, which begin with this one
abbrev pub left_from : Plan → Option Switch → ℕ → List ClientState → ℕ
left_from plan now c [] = 0
left_from plan now c (x ∷ clients) = client_left plan now c x + left_from plan now (c + 1) clients

-- a lost switch is still to be rebuilt
abbrev pub recovery_left : Option Switch → ℕ
recovery_left None = 1
recovery_left (Some now) = 0

abbrev pub moves_left : Plan → State → ℕ
moves_left plan s = left_from plan s.switch 0 s.clients + recovery_left s.switch
