use Rattle.std.proofs.Common.{◌≡◌, ◌+◌, ◌≤◌, length, take, drop, sym, ap, ◌∙◌, arith}
use Rattle.std.proofs.Math.ListN.{drop_of_length-le}
use Rattle.std.proofs.lemmas.List.{length-drop}
use Rattle.port_io.proofs.Known.{drop-copied}
use Rattle.port_io.proofs.clean.CleanSourceSource.read.Goals as goal

pub returns-clause-bytes : goal.returns-clause-bytes
returns-clause-bytes c =
    let bytes = c.self.inside.bytes.items in
    let at = c.self.inside.at in
    let rest : c.rest.result.now ≡ drop at bytes = c.rest.ensures ∙ sym c.self.view_is in
    let front = c.copy_front-count.ensures.front ∙ ap (λ left. take c.copy_front-count.result left) rest in (
      sym c.self.view_is ∙ drop-copied bytes c.copy_front-count.new.to at c.copy_front-count.result front,
      λ none room.
          let end : length bytes ≤ at + c.copy_front-count.result = omega (arith, ap length rest, length-drop at bytes) in
          drop_of_length-le bytes end,
    )
