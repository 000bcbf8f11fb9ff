-- `stream::list::put_heading` meets its contract: the part that is copied over is the three numbers.
use Rattle.std.proofs.Common.{sym, ap, ◌∙◌, ◌≡◌, List, ◌++◌, ℕ, ◌+◌, ◌-◌, take, drop, append_assoc, arith}
use Rattle.std.proofs.lemmas.List.{drop-drop}
use Rattle.std.proofs.Math.Seq.{sets-eq}
use Rattle.stream.specs.Headings.{numbers_of}
use Rattle.stream.proofs.list.put_heading.Goals as goal

pub returns : goal.returns
returns c =
    let a = c.args in
    let l = a.list.now in
    let h = numbers_of a.heading in
    let size : a.at + 3 - a.at ≡ 3 = omega arith in
    rw (c.copy_from_slice.ensures.after, size)
    (ap (λ (y : List ℕ). take a.at l ++ (h ++ y)) (drop-drop 3 a.at l) ∙ sym (append_assoc (take a.at l) h (drop (a.at + 3) l)) ∙ sym (sets-eq h l a.at c.requires))
