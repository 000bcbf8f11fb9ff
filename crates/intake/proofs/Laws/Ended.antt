-- A text with its last line ended: the byte 10 that it may lack changes no answer, and no heading line starts at it.
use mathlib.Core.Path.{◌≡◌, refl, sym, ap, ◌∙◌}
use mathlib.Core.Bool.{Bool, true, false, true≢false}
use mathlib.Core.List.{List, [], ◌∷◌, ◌++◌, append-nil, append_assoc}
use Prim.Native.Nat.{ℕ, zero, suc, ◌+◌, ◌≤◌, ◌<◌}
use native.Mathlib.Omega.{arith}
use lib.Dec.{leb}
use lib.ListN.{length, length-append}
use borrow.Author.Tests.{leb-true, leb-false}
use borrow.Table.Steps.{cases}
use Rattle.text.specs.Limits.{text_limit}
use Rattle.text.specs.Lines.{is_ended}
use Rattle.text.specs.Parts.{line_starts}
use Rattle.text.proofs.Laws.Joined.{ended-line, ended-byte}
use Rattle.std.specs.declared.result.Result.TheVariants.{Err}
use Rattle.lookup.specs.declared.lookup.Refusal.TheVariants.{NoHeading}
use Rattle.lookup.specs.Stages.{is_bad_key}
use Rattle.lookup.specs.Lookup.{lookup}
use Rattle.lookup.proofs.Laws.Local.{lookup-inside-line, lookup-past}
use Rattle.lookup.proofs.Laws.Joined.{starts-append}
use Rattle.lookup.proofs.Laws.LineEnded.{lookup-newline}
use Rattle.intake.specs.Book.{added_to, added}

unfoldable pub ended : List ℕ → List ℕ
ended s = s ++ added s []

-- what is added is that byte and the rest
added_to-nil : (b : Bool) (x : List ℕ) → added_to b x ≡ added_to b [] ++ x
unfolding added_to
added_to-nil true x = refl
added_to-nil false x = refl

added_to-length : (b : Bool) → length (added_to b []) ≤ 1
unfolding added_to
added_to-length true = omega arith
added_to-length false = omega arith

-- at an end that lacks its byte 10 no line starts
open-end : (s : List ℕ) (n : ℕ) → length s ≡ n → is_ended s ≡ false → line_starts s n ≡ false
unfolding line_starts is_ended
open-end [] n h e = absurd (true≢false e)
open-end (b ∷ s) zero h e = absurd (omega arith)
open-end (b ∷ s) (suc n) h e = ended-byte (b ∷ s) n h ∙ e

module _ (s : List ℕ) where
  pub ended-added : (x : List ℕ) → s ++ added s x ≡ ended s ++ x
  unfolding ended added
  ended-added x = rw (added_to-nil (is_ended s) x) (sym (append_assoc s (added_to (is_ended s) []) x))

  pub added-length : (x : List ℕ) → length (added s x) ≡ length (added s []) + length x
  unfolding added
  added-length x = rw (added_to-nil (is_ended s) x) (length-append (added_to (is_ended s) []) x)

  ended-yes : is_ended s ≡ true → ended s ≡ s
  unfolding ended added added_to
  ended-yes h = rw h (append-nil s)

  ended-no : is_ended s ≡ false → ended s ≡ s ++ (10 ∷ [])
  unfolding ended added added_to
  ended-no h = rw h

  pub ended_is : is_ended (ended s) ≡ true
  ended_is = cases (is_ended s) (λ h. rw (ended-yes h) h) (λ h. rw (ended-no h) (ended-line s))

  pub ended-length : length (ended s) ≡ length s + length (added s [])
  unfolding ended
  ended-length = length-append s (added s [])

  module _ (k : List ℕ) (long : length (ended s) ≤ text_limit) where
    pub ended-lookup : (p : ℕ) → p < length s → lookup (ended s) p k ≡ lookup s p k
    ended-lookup p h = cases (is_ended s)
        (λ e. rw (ended-yes e))
        (λ e. let n = ap length (ended-no e) ∙ length-append s (10 ∷ []) in rw (ended-no e) (lookup-newline s k e (omega arith) p h))

    pub ended-past : is_bad_key k ≡ false → (p : ℕ) → length s ≤ p → lookup (ended s) p k ≡ Err NoHeading
    ended-past good p h = cases (leb (length (ended s)) p)
        (λ l. lookup-past (ended s) p k long good (leb-true (length (ended s)) p l))
        (λ l. lookup-inside-line (ended s) p k long good (cases (is_ended s)
        (λ e. absurd (omega (arith, leb-false (length (ended s)) p l, ap length (ended-yes e))))
        (λ e. let n = ap length (ended-no e) ∙ length-append s (10 ∷ []) in
        let q : p ≡ length s = omega (arith, leb-false (length (ended s)) p l) in
        rw (ended-no e, q, starts-append s (10 ∷ []) (length s) (omega arith)) (open-end s (length s) refl e))))
