-- `stream::advance::go_on` meets its contract: only the line and its title grow.
use Rattle.std.proofs.Common.{sym, ap, ◌∙◌, ℕ, ◌-◌}
use Rattle.text.specs.Parts.{part}
use Rattle.text.proofs.Laws.Parts.{part_length}
use Rattle.stream.specs.Steps.{fed}
use Rattle.stream.proofs.Laws.GoesOn.{further, fed-further}
use Rattle.stream.proofs.advance.go_on.Goals as goal

pub returns : goal.returns
returns c =
    let a = c.args in
    let pre = c.requires in
    let x = part a.bytes.now a.from a.to in
    ap (further a.state (a.to - a.from)) c.title_after.ensures
    ∙ ap (λ (n : ℕ). further a.state n (fed a.state x).title) (sym (part_length a.bytes.now a.from a.to pre.to))
    ∙ sym (fed-further a.state x pre.bytes pre.past)
