-- A run: what container c, of index q, holds from byte p on, the first record at index k, each followed by what it holds itself.
-- Such a run stands as a proper table asks, wherever it stands in a table.
-- Assumes nothing.
use mathlib.Core.Path.{◌≡◌, refl, subst}
use mathlib.Core.Logic.{◌⊎◌, inl, inr}
use mathlib.Core.List.{List, [], ◌∷◌, ◌++◌, append-nil, append_assoc}
use Prim.Native.Nat.{ℕ, suc, ◌+◌, ◌≤◌, ◌<◌}
use native.Mathlib.Omega.{arith}
use lib.Dec.{T}
use lib.ListN.{length, drop, length-append}
use Rattle.text.specs.Parts.{first_line}
use Rattle.rules.specs.Kind
use Rattle.rules.specs.Kind.{is_holder}
use Rattle.rules.proofs.Basics.{All, all_nil, all_cons, all_append, all_map}
use Rattle.rules.proofs.Laws.Kind.{sections-low}
use Rattle.table.specs.Proper.{with_parent, Tiled}
use Rattle.table.specs.Records.{at}
use Rattle.table.specs.Closers.{end_in, Sought}
use Rattle.table.proofs.Basics.{on, split}
use Rattle.table.proofs.Laws.Closers.{Ends, ends-closers, ends-inner}
use Rattle.table.proofs.Laws.Proper.{with_parent-append, with_parent-yes, with_parent-from}
use Rattle.table.proofs.Laws.Records.{drop-run, at_head, drop_head}
use Rattle.table.proofs.Proper.Stands.{Child, Filled, Local, stands-local, Outside, outside_wider, with_parent-outside, Placed, placed_first}
use Rattle.table.proofs.Proper.Stands.{inside-more}
use Rattle.table.specs.declared.record.Record.{Record}

-- r is what stands at byte p of container c, which has index q
pub record ChildAt (s : List ℕ) (c : Record) (q p : ℕ) (r : Record) : Type 0 where
  pub parent : r.parent ≡ q
  pub start : r.start ≡ p
  pub low : Kind.planning ≤ r.kind
  pub child : Child s c r

-- A holder's run ends at its inner end. What is no holder has the empty run. Closers in c are sought up to h, the first number.
pub data Forest (s : List ℕ) : ℕ → Record → ℕ → ℕ → ℕ → List Record → Type 0 where
  done : {h : ℕ} {c : Record} {q p k : ℕ} → (T (is_holder c.kind) → p ≡ c.to) → Forest s h c q p k []
  node : {h : ℕ} {c : Record} {q p k : ℕ} (r : Record) {I F : List Record} → ChildAt s c q p r → Sought s h c r
      → Forest s (end_in h r) r k (first_line s r.from r.to) (suc k) I
      → Forest s h c q r.end (suc k + length I) F → Forest s h c q p k (r ∷ (I ++ F))

-- ---- the records of a run

-- its parent is the container, or a record of the run
pub record Own (q k : ℕ) (r : Record) : Type 0 where
  pub parent : (r.parent ≡ q) ⊎ (k ≤ r.parent)
  pub low : Kind.planning ≤ r.kind

pub own-from : (q k : ℕ) → q < k → (r : Record) → Own q k r → q ≤ r.parent
own-from q k l r o = on o.parent (λ e. omega arith) (λ h. omega arith)

own-inner : (q k : ℕ) (r : Record) → Own k (suc k) r → Own q k r
own-inner q k r o = record { parent = inr (own-from k (suc k) (omega arith) r o); low = o.low }

own-later : (q k n : ℕ) (r : Record) → Own q (suc k + n) r → Own q k r
own-later q k n r o = record { parent = on o.parent inl (λ h. inr (omega arith)); low = o.low }

pub owned : {s : List ℕ} {h : ℕ} {c : Record} {q p k : ℕ} {E : List Record} → Forest s h c q p k E → All (Own q k) E
owned (done e) = all_nil
owned {q = q} {k = k} (node r {I = I} ch w g f) =
    all_cons (record { parent = inl ch.parent; low = ch.low })
    (all_append (all_map (own-inner q k) (owned g)) (all_map (own-later q k (length I)) (owned f)))

-- the children of the container are laid end to end
own-tiles : {s : List ℕ} {e : ℕ} {c : Record} {q p k : ℕ} {E : List Record} → T (is_holder c.kind) → q < k → Forest s e c q p k E
    → Tiled p c.to (with_parent q E)
unfolding Tiled with_parent
own-tiles h l (done e) = e h
own-tiles {q = q} {k = k} h l (node r {I = I} {F = F} ch w g f) =
    let none = with_parent-from q l (all_map (own-from k (suc k) (omega arith)) (owned g)) in
    rw (with_parent-yes q r (I ++ F) ch.parent, with_parent-append q I F, none) (ch.start, own-tiles h (omega arith) f)

-- what record k holds fills it, where nothing after has its parent in k or in what k holds
pub forest-filled : {s : List ℕ} {e : ℕ} {r : Record} {k : ℕ} {I post : List Record} (R : List Record) → drop (suc k) R ≡ I ++ post
    → All (Outside k (suc k + length I)) post → Forest s e r k (first_line s r.from r.to) (suc k) I
    → T (is_holder r.kind) → Filled s r (with_parent k (drop (suc k) R))
forest-filled {k = k} {I = I} {post = post} R d x g h =
    rw (d, with_parent-append k I post, with_parent-outside k x (omega arith) (omega arith), append-nil) (own-tiles h (omega arith) g)

-- ---- a run in its place in a table

module _ {s : List ℕ} {h : ℕ} {c : Record} {q p k : ℕ} (r : Record) {I F : List Record} (ch : ChildAt s c q p r)
    (w : Sought s h c r) (g : Forest s (end_in h r) r k (first_line s r.from r.to) (suc k) I) (f : Forest s h c q r.end (suc k + length I) F)
    (R post : List Record) (pl : Placed R c q k (r ∷ (I ++ F)) post) (ends : Ends R q h) where
  here : drop k R ≡ r ∷ (I ++ (F ++ post))
  here = rw (← append_assoc I F post) pl.here

  at-node : at R k ≡ r
  at-node = at_head R k r (I ++ (F ++ post)) here

  here-inner : drop (suc k) R ≡ I ++ (F ++ post)
  here-inner = drop_head R k r (I ++ (F ++ post)) here

  -- what stands after the records that r holds has no parent among them
  apart-inner : All (Outside k (suc k + length I)) (F ++ post)
  apart-inner =
      all_append (all_map (λ x o. on o.parent (λ e. inl (omega (arith, pl.before))) inr) (owned f))
      (outside_wider pl.apart (omega arith) (omega (arith, length-append I F)))

  placed-inner : Placed R r k (suc k) I (F ++ post)
  placed-inner = placed_first here-inner at-node (outside_wider apart-inner (omega arith) (omega arith))

  placed-next : Placed R c q (suc k + length I) F post
  placed-next =
      let inner : All (λ x. q ≤ x.parent) I = all_map (λ x o. omega (arith, pl.before, own-from k (suc k) (omega arith) x o)) (owned g) in
      record {
        here = drop-run R I (F ++ post) (suc k) here-inner (suc k + length I) refl;
        holder = pl.holder;
        before = omega (arith, pl.before);
        inside = inside-more R (r ∷ I) (F ++ post) q k here pl.inside (all_cons (omega (arith, ch.parent)) inner) _ (omega arith);
        apart = outside_wider pl.apart (omega arith) (omega (arith, length-append I F));
      }

  ends-node : Ends R k (end_in h r)
  ends-node = ends-inner R k h r at-node (rw ch.parent pl.before) (rw ch.parent ends)

  local-node : Local s R k
  local-node =
      stands-local at-node (rw ch.parent pl.holder) (rw ch.parent (ends-closers R q h ends))
      (record {
        earlier = rw ch.parent pl.before;
        together = rw ch.parent pl.inside;
        heading = λ e. absurd (omega (arith, ch.low));
        section = λ i. absurd (omega (arith, ch.low, sections-low r.kind i));
        filled = forest-filled R here-inner apart-inner g;
        child = ch.child;
        sought = w;
      })

pub forest-local : {s : List ℕ} {h : ℕ} {c : Record} {q p k : ℕ} {E : List Record} → Forest s h c q p k E → (R post : List Record)
    → Placed R c q k E post → Ends R q h → (j : ℕ) → k ≤ j → j < k + length E → Local s R j
forest-local (done e) R post pl ends j a b = absurd (omega arith)
forest-local {s = s} {k = k} (node r {I = I} {F = F} ch w g f) R post pl ends j a b =
    split k j
    (λ d. split j (suc k + length I)
    (λ i. forest-local g R (F ++ post) (placed-inner r ch w g f R post pl ends) (ends-node r ch w g f R post pl ends) j d i)
    (λ i. forest-local f R post (placed-next r ch w g f R post pl ends) ends j i (omega (arith, length-append I F))))
    (λ d. let e : k ≡ j = omega arith in subst (Local s R) e (local-node r ch w g f R post pl ends))
