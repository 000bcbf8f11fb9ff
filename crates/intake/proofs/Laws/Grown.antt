-- A text s, its last line ended, and after it a text x whose first line is its only heading line: what stands in s is looked up as before, the
-- heading of x as in x, and nothing else is there.
use mathlib.Core.Path.{◌≡◌, refl, sym, ap, ◌∙◌}
use mathlib.Core.Bool.{false}
use mathlib.Core.List.{List, [], ◌++◌}
use Prim.Native.Nat.{ℕ, zero, suc, ◌+◌, ◌-◌, ◌≤◌, ◌<◌}
use native.Mathlib.Omega.{arith}
use native.Mathlib.Nat.{add-zero}
use lib.Dec.{ltb}
use lib.ListN.{length, drop, length-append, length-drop}
use lib.Seq.{drop-append-le, take-append-le}
use borrow.Author.Tests.{ltb-true, ltb-false}
use borrow.Table.Steps.{cases}
use Rattle.text.specs.Limits.{text_limit}
use Rattle.lookup.specs.Stages.{is_bad_key}
use Rattle.lookup.specs.Lookup.{Answer, lookup, number, start, end, part_of}
use Rattle.lookup.specs.Joined.{shift}
use Rattle.lookup.proofs.Laws.Lookup.{lookup-inside}
use Rattle.lookup.proofs.Laws.Local.{number-shift, part_of-shift}
use Rattle.lookup.proofs.Laws.Joined.{lookup-later, lookup-earlier}
use Rattle.sheet.specs.Promises.{Gives}
use Rattle.intake.specs.Book.{added}
use Rattle.intake.proofs.Laws.Sheets.{OneHeadingLine}
use Rattle.intake.proofs.Laws.Ended.{ended, ended_is, ended-length, ended-lookup, ended-past}

-- ---- what a text gives, and the same text with another after it

-- a part of the first text is the same part of both
part-front : (s t : List ℕ) (r : Answer) → start r ≤ end r → end r ≤ length s → part_of r (s ++ t) ≡ part_of r s
part-front s t r h i =
    rw (drop-append-le (start r) s t (omega arith))
    (take-append-le (end r - start r) (drop (start r) s) t (omega (arith, length-drop (start r) s)))

module _ (s t k v : List ℕ) (p : ℕ) (same : lookup (s ++ t) p k ≡ lookup s p k) where
  part_same : part_of (lookup (s ++ t) p k) (s ++ t) ≡ part_of (lookup s p k) s
  part_same = let i = lookup-inside s p k in rw same (part-front s t (lookup s p k) i.0 i.1)

  gives-front : Gives s p k v → Gives (s ++ t) p k v
  gives-front g = record { found = ap number same ∙ g.found; bytes = part_same ∙ g.bytes }

  gives_back : Gives (s ++ t) p k v → Gives s p k v
  gives_back g = record { found = sym (ap number same) ∙ g.found; bytes = sym part_same ∙ g.bytes }

module _ (s k v : List ℕ) (p : ℕ) (long : length (ended s) ≤ text_limit) (h : p < length s) where
  ended-front : Gives s p k v → Gives (ended s) p k v
  unfolding ended
  ended-front = gives-front s (added s []) k v p (ended-lookup s k long p h)

  ended-back : Gives (ended s) p k v → Gives s p k v
  unfolding ended
  ended-back = gives_back s (added s []) k v p (ended-lookup s k long p h)

-- ---- the text that has grown

module _ (s x : List ℕ) (alone : OneHeadingLine x) (long : length (ended s ++ x) ≤ text_limit) where
  abbrev b : List ℕ
  b = ended s

  abbrev t : List ℕ
  t = b ++ x

  b-long : length b ≤ text_limit
  b-long = omega (arith, length-append b x)

  module _ (k : List ℕ) where
    b-same : (p : ℕ) → p < length b → lookup t p k ≡ lookup b p k
    b-same = lookup-earlier b x k (ended_is s) long alone.first

    x-moved : (q : ℕ) → lookup t (length b + q) k ≡ shift (length b) (lookup x q k)
    x-moved = lookup-later b x k (ended_is s) long

    pub grown-earlier : (p : ℕ) → p < length s → lookup t p k ≡ lookup s p k
    grown-earlier p h = b-same p (omega (arith, ended-length s)) ∙ ended-lookup s k b-long p h

    module _ (v : List ℕ) where
      pub grown-old : (p : ℕ) → p < length s → Gives s p k v → Gives t p k v
      grown-old p h g = gives-front b x k v p (b-same p (omega (arith, ended-length s))) (ended-front s k v p b-long h g)

      pub grown-new : Gives x 0 k v → Gives t (length b) k v
      grown-new g =
          let e : lookup t (length b) k ≡ shift (length b) (lookup x 0 k) = rw (add-zero (length b)) at (x-moved 0) in
          record {
            found = ap number e ∙ number-shift (length b) (lookup x 0 k) ∙ g.found;
            bytes = ap (λ (r : Answer). part_of r t) e ∙ part_of-shift b x (lookup x 0 k) ∙ g.bytes;
          }

      -- what is given at the start of x, or after it, is given by its heading
      x-where : (q : ℕ) → is_bad_key k ≡ false → Gives t (length b + q) k v → (q ≡ 0) × Gives x 0 k v
      x-where zero good g = (
        refl,
        record {
          found = sym (number-shift (length b) (lookup x 0 k)) ∙ sym (ap number (x-moved 0)) ∙ g.found;
          bytes = sym (ap (λ (r : Answer). part_of r t) (x-moved 0) ∙ part_of-shift b x (lookup x 0 k)) ∙ g.bytes;
        },
      )
      x-where (suc q) good g = absurd (omega (
        arith,
        g.found,
        ap number (x-moved (suc q)),
        number-shift (length b) (lookup x (suc q) k),
        ap number (alone.later q k good),
      ))

      -- where it is given: at a byte of s as before, or at the heading of x
      pub grown-where : {A : Type 0} (p : ℕ) → is_bad_key k ≡ false → Gives t p k v
          → (Gives s p k v → A) → (p ≡ length b → Gives x 0 k v → A) → A
      grown-where p good g old new = cases (ltb p (length b))
          (λ l. let m = ltb-true p (length b) l in
          let w = gives_back b x k v p (b-same p m) g in
          cases (ltb p (length s))
          (λ n. old (ended-back s k v p b-long (ltb-true p (length s) n) w))
          (λ n. absurd (omega (arith, w.found, ap number (ended-past s k b-long good p (ltb-false p (length s) n))))))
          (λ l. let m = ltb-false p (length b) l in
          let q : length b + (p - length b) ≡ p = omega arith in
          let (z, w) = x-where (p - length b) good (rw (← q) at g) in
          new (omega arith) w)
