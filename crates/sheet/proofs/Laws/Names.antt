-- Laws of names between colons, as a node property's line has them.
use mathlib.Core.Path.{◌≡◌, refl, sym, ◌∙◌}
use mathlib.Core.Bool.{true, false, not, true≢false, false≢true}
use mathlib.Core.List.{List, [], ◌∷◌, ◌++◌}
use Prim.Native.Nat.{ℕ}
use lib.Dec.{eqb}
use borrow.Author.Tests.{not-true}
use Rattle.text.specs.Bytes.{lower}
use Rattle.text.specs.Runs.{all, same}
use Rattle.rules.specs.Names.{ends_in, between_colons}
use Rattle.rules.specs.LineTests.{drop_plus}
use Rattle.rules.proofs.Basics.{and_yes}
use Rattle.rules.proofs.Laws.Names.{ends_in-last, all_but_last-last}

pub between_colons-marker : (k : List ℕ) → between_colons (58 ∷ (k ++ (58 ∷ []))) ≡ k
unfolding between_colons
between_colons-marker k = rw (ends_in-last 58 58 k, between_colons) (all_but_last-last 58 k)

pub drop_plus-no : (k : List ℕ) → ends_in 43 k ≡ false → drop_plus k ≡ k
unfolding drop_plus
drop_plus-no k h = rw (h, drop_plus)

-- bytes that a colon ends, and a word that one ends, are the same: then so are what stands before that colon and the word, if it holds none
pub same-colon : (k w x : List ℕ) → all (λ c. not (eqb 58 (lower c))) w ≡ true → same (k ++ (58 ∷ x)) (w ++ (58 ∷ [])) ≡ true → same k w ≡ true
unfolding same all lower
same-colon [] [] x h i = refl
same-colon [] (c ∷ w) x h i =
    let h0 = (and_yes (not (eqb 58 (lower c))) _ h).0 in
    let i0 = (and_yes (eqb 58 (lower c)) _ i).0 in
    absurd (true≢false (sym i0 ∙ not-true _ h0))
same-colon (b ∷ k) [] x h i = absurd (longer k (and_yes (eqb (lower b) 58) _ i).1)
  where
    longer : (k : List ℕ) → same (k ++ (58 ∷ x)) [] ≡ true → ⊥
    longer [] h = false≢true h
    longer (b ∷ k) h = false≢true h
same-colon (b ∷ k) (c ∷ w) x h i =
    let (i0, i1) = and_yes (eqb (lower b) (lower c)) _ i in
    rw i0 (same-colon k w x (and_yes (not (eqb 58 (lower c))) _ h).1 i1)
