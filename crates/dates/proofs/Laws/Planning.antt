-- Laws of planning lines: one part more, the stamps by their places, and that a planning line begins with a keyword.
-- Assumes nothing.
use mathlib.Core.Path.{◌≡◌, refl, sym, ap, ◌∙◌}
use mathlib.Core.Bool.{true, false, ◌||◌, false≢true}
use mathlib.Core.List.{List}
use mathlib.Core.Option.{none, some}
use Prim.Native.Nat.{ℕ, zero, suc, ◌-◌, ◌≤◌, ◌<◌}
use native.Mathlib.Omega.{arith}
use lib.ListN.{length}
use borrow.Table.Steps.{cases}
use Rattle.std.specs.declared.option.Option as Options
use Rattle.text.specs.Runs.{word, is_empty, begins}
use Rattle.text.specs.Parts.{part}
use Rattle.text.proofs.Laws.Parts.{part-nil, part-cons}
use Rattle.dates.specs.Reads.{Reads, gap}
use Rattle.dates.specs.Stamps.{timestamp}
use Rattle.dates.specs.Planning.{keyword, planning_part, put, planning_parts, no_stamps, planning_in, planning_body}
use Rattle.dates.specs.Found.{stamp_in, stamps_in, placed, PlacesIn}
use Rattle.dates.specs.declared.planning.Keyword.{Keyword}
use Rattle.dates.specs.declared.planning.Keyword.TheVariants.{Closed, Deadline, Scheduled}
use Rattle.dates.specs.declared.planning.Places.{Places}
use Rattle.dates.specs.declared.planning.Planning.{Planning}
use Rattle.dates.specs.declared.stamp.Timestamp.{Timestamp}

-- ---- the parts from byte p on, up to n, after those whose stamps are a

module _ (s : List ℕ) (p e : ℕ) (a : Planning) where
  pub planning-missing : (n : ℕ) → Reads {A = Keyword × Options.Option Timestamp} s p e planning_part none → planning_parts n a (part s p e) ≡ none
  unfolding planning_parts
  planning-missing zero h = refl
  planning-missing (suc n) h = rw h.is

  pub planning-end : (n : ℕ) → e ≤ p → planning_parts n a (part s p e) ≡ none
  unfolding planning_parts planning_part keyword begins word
  planning-end zero h = refl
  planning-end (suc n) h = rw (part-nil s p e h)

  module _ (k : Keyword) (t : Options.Option Timestamp) (q : ℕ) (h : Reads s p e planning_part (some ((k, t), q))) where
    -- without blank bytes after a part it is the last, and the end follows
    pub planning-last : (n : ℕ) → 1 ≤ n → Reads {A = Unit {0}} s q e gap none → q ≡ e → planning_parts n a (part s p e) ≡ some (put k t a)
    unfolding planning_parts is_empty
    planning-last zero i g j = absurd (omega arith)
    planning-last (suc n) i g j = rw (h.is, g.is, part-nil s q e (omega arith))

    pub planning-other : (n : ℕ) → 1 ≤ n → Reads {A = Unit {0}} s q e gap none → q < e → e ≤ length s → planning_parts n a (part s p e) ≡ none
    unfolding planning_parts is_empty
    planning-other zero i g j l = absurd (omega arith)
    planning-other (suc n) i g j l = rw (h.is, g.is, part-cons s q e j l)

    -- a part more
    pub planning-more : (n : ℕ) → 1 ≤ n → (z : ℕ) → Reads s q e gap (some (tt, z)) → planning_parts n a (part s p e) ≡ planning_parts (n - 1) (put k t a) (part s z e)
    unfolding planning_parts
    planning-more zero i z g = absurd (omega arith)
    planning-more (suc n) i z g = let r : suc n - 1 ≡ n = omega arith in rw (h.is, g.is, r)

-- ---- stamps by the bytes at which they start

module _ (s : List ℕ) (e : ℕ) where
  pub put-placed : (k : Keyword) (q : ℕ) (p : Places) → put k (stamp_in s q e) (stamps_in s e p) ≡ stamps_in s e (placed k q p)
  put-placed Closed q p = refl
  put-placed Deadline q p = refl
  put-placed Scheduled q p = refl

  pub placed-in : (k : Keyword) (q : ℕ) (p : Places) → q ≤ e → PlacesIn e p → PlacesIn e (placed k q p)
  placed-in Closed q p h i = (h, i.1, i.2)
  placed-in Deadline q p h i = (i.0, h, i.2)
  placed-in Scheduled q p h i = (i.0, i.1, h)

  stamp_in-end : stamp_in s e e ≡ Options.TheVariants.None
  unfolding stamp_in timestamp begins word
  stamp_in-end = ap (λ (x : List ℕ). (timestamp x).0) (part-nil s e e (omega arith))

  pub stamps_in-end : stamps_in s e (record { closed = e; deadline = e; scheduled = e }) ≡ no_stamps
  stamps_in-end = rw stamp_in-end

-- ---- a planning line begins with a keyword

parts_none : (n : ℕ) (a : Planning) (x : List ℕ) → keyword x ≡ none → planning_parts n a x ≡ none
unfolding planning_parts planning_part
parts_none zero a x h = refl
parts_none (suc n) a x h = rw h

body-none : (x : List ℕ) → keyword x ≡ none → planning_body x ≡ false
unfolding planning_body planning_in
body-none x h = rw (parts_none (length x) no_stamps x h)

planning-begins : (x : List ℕ) → planning_body x ≡ true → (begins x (word "closed:") || begins x (word "deadline:") || begins x (word "scheduled:")) ≡ true
unfolding keyword
planning-begins x h = cases (begins x (word "closed:"))
    (λ a. rw a)
    (λ a. cases (begins x (word "deadline:"))
    (λ b. rw (a, b))
    (λ b. cases (begins x (word "scheduled:"))
    (λ c. rw (a, b, c))
    (λ c. absurd (false≢true (sym (body-none x (rw (a, b, c))) ∙ h)))))

-- so a line that begins with none is no planning line
pub planning-off : (x : List ℕ) → (begins x (word "closed:") || begins x (word "deadline:") || begins x (word "scheduled:")) ≡ false → planning_body x ≡ false
planning-off x h = cases (planning_body x) (λ e. absurd (false≢true (sym h ∙ planning-begins x e))) (λ e. e)
