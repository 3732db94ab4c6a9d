-- Items as contracts see them, without the spare room of their scripts.
use Rattle.std.specs.Prelude.{◌<◌, ◌≤◌, ◌^◌, List, map, length, All, Vec}
use Rattle.std.specs.Global.{Global}
use Rattle.catalogue.specs.Plan as plan
use Rattle.catalogue.specs.Plan.{PlainItem}
use Rattle.catalogue.specs.declared.item.Item.{Item}
use Rattle.catalogue.specs.declared.item.Item.TheVariants.{Run, Lose}

abbrev pub plain_item : Item → PlainItem
plain_item (Run script) = plan.Run script.items
plain_item Lose = plan.Lose

abbrev pub plain_items : List Item → List PlainItem
plain_items items = map plain_item items

abbrev pub plain_lists : List (Vec Item Global) → List (List PlainItem)
plain_lists lists = map (λ list. plain_items list.items) lists

-- at most 8 lists, each with fewer than 2^32 items
pub record AreFew (lists : List (Vec Item Global)) : Type 0 where
  pub clients : length lists ≤ 8
  pub items : All (λ list. length list.items < 2 ^ 32) lists
