-- The headings of a reading stand as a proper table asks, with their sections. Carried from heading to heading: what is known of each record that
-- may become a later heading's parent.
-- Assumes nothing.
use mathlib.Core.Path.{◌≡◌, refl, ap, ◌∙◌, subst}
use mathlib.Core.Logic.{◌⊎◌, inl}
use mathlib.Core.Bool.{true}
use mathlib.Core.List.{List, ◌∷◌, ◌++◌}
use Prim.Native.Nat.{ℕ, suc, ◌+◌, ◌≤◌, ◌<◌}
use native.Mathlib.Omega.{arith}
use lib.Dec.{T}
use lib.ListN.{length, drop, length-drop}
use Rattle.text.proofs.Laws.LinesIn.{next_line-from, next_line-skip, next_line-wider}
use Rattle.rules.specs.Headings.{is_heading, is_heading_up_to}
use Rattle.rules.specs.Kind
use Rattle.rules.specs.Kind.{holds_sections}
use Rattle.rules.proofs.Basics.{All, all_cons, all_map}
use Rattle.rules.proofs.Laws.Headings.{stars-some, up_to-no, up_to-more}
use Rattle.table.specs.Proper.{with_parent, IsHeadingRecord, IsTopRecord, Within, Nearest}
use Rattle.table.specs.Reading.{nearest}
use Rattle.table.specs.Records.{at}
use Rattle.table.specs.Sections.{line_at, section_end}
use Rattle.table.specs.Closers.{closers_end}
use Rattle.table.proofs.Basics.{on, split}
use Rattle.table.proofs.Laws.Reading.{Earlier, nearest-here, nearest-skip, stars_at, next_heading, next_up_to, heading_at, group_at}
use Rattle.table.proofs.Laws.Records.{drop-run, at_head, drop_head}
use Rattle.table.proofs.Proper.Heads.{Begins, Heads, heads-none, heads-step, line_at-some, stars_at-le, heading-top, group-own, heads-outside}
use Rattle.table.proofs.Proper.Sections.{Top, InGroup, top-child, top-sought, section-at, section-after, section-local}
use Rattle.table.proofs.Proper.Stands.{Filled, Inside, Local, stands-local, Placed, placed_first, inside-more}
use Rattle.table.proofs.Proper.Subheadings.{next_up_to-next, next_up_to-past, Open, heads-filled}
use Rattle.table.specs.declared.record.Record.{Record}

-- the parent c, of index q, that a heading at byte p with x stars gets, in a table R whose records before k are known
pub record Ready (s : List ℕ) (R : List Record) (p k x q : ℕ) (c : Record) : Type 0 where
  pub before : q < k
  pub top : T (holds_sections c.kind)
  pub heading : (c.kind ≡ Kind.heading) ⊎ (q ≡ 0)
  pub fewer : c.detail < x
  pub far : (j : ℕ) → q < j → j < k → (at R j).kind ≡ Kind.heading → x ≤ (at R j).detail
  pub inside : Inside R q k
  pub from : c.from ≤ p
  pub to : c.to ≡ next_up_to s c.detail p

abbrev pub AllReady : List ℕ → List Record → ℕ → ℕ → Earlier → Type 0
AllReady s R p k hs = (x : ℕ) → 0 < x → Ready s R p k x (nearest x hs) (at R (nearest x hs))

-- ---- the heading at p, of index k, and the headings H after its section

module _ {s : List ℕ} {hs : Earlier} {p k : ℕ} {H : List Record} (R : List Record) (l : Begins s p) (y : is_heading (line_at s p) ≡ true)
    (hd : Heads s ((k, stars_at s p) ∷ hs) (next_heading s p) (suc k + length (group_at s hs p k)) H)
    (d : drop k R ≡ heading_at s hs p ∷ (group_at s hs p k ++ H)) (ready : AllReady s R p k hs) where
  abbrev m : ℕ
  m = stars_at s p

  abbrev h : Record
  h = heading_at s hs p

  abbrev g : List Record
  g = group_at s hs p k

  -- its parent
  abbrev q : ℕ
  q = nearest m hs

  -- where its line ends, and the next heading with its index
  abbrev i : ℕ
  i = p + length (line_at s p)

  abbrev p' : ℕ
  p' = next_heading s p

  abbrev k' : ℕ
  k' = suc k + length g

  own : Ready s R p k m q (at R q)
  own = ready m (stars-some (line_at s p) y)

  top : Top s h
  top = heading-top s p l hs

  at-heading : at R k ≡ h
  at-heading = at_head R k h (g ++ H) d

  group-here : drop (suc k) R ≡ g ++ H
  group-here = drop_head R k h (g ++ H) d

  -- ---- the heading

  heading-within : Within (at R q) h
  heading-within =
      let n = (at R q).detail in
      let skip = next_line-skip s (is_heading_up_to n) p (up_to-no n (line_at s p) own.fewer) in
      let wider = next_line-wider s (is_heading_up_to n) (is_heading_up_to m) i (up_to-more n m (omega (arith, own.fewer))) in
      record {
        from = own.from;
        some = omega (arith, line_at-some s p l.inside, next_line-from s (is_heading_up_to m) i);
        to = omega (arith, own.to);
      }

  is-top : IsTopRecord s (at R q) h
  unfolding IsTopRecord IsHeadingRecord
  is-top = rw (y, IsTopRecord) (record { kind = refl; end = refl; from = refl; to = refl; detail = refl })

  heading-nearest : Nearest R k q
  heading-nearest =
      record { heading = own.heading; fewer = rw at-heading own.fewer; nearest = λ j a b e. rw at-heading (own.far j a b e) }

  heading-open : Open s k m (length s) ((k, m) ∷ hs)
  heading-open =
      record {
        order = stars_at-le s p l.inside;
        child = λ x a b. nearest-here x k m hs a;
        deep = λ x a b e. omega arith;
        out = λ x z a e. omega (arith, (ready x z).before, nearest-skip x k m hs a);
      }

  heading-filled : Filled s h (with_parent k (drop (suc k) R))
  unfolding section_end
  heading-filled = rw group-here (heads-filled s h k k' ((k, m) ∷ hs) H top hd (omega arith) heading-open)

  local-heading : Local s R k
  local-heading =
      stands-local at-heading refl refl
      (record {
        earlier = own.before;
        together = own.inside;
        heading = λ e. heading-nearest;
        section = λ a. section-after s h top k R H group-here;
        filled = λ a. heading-filled;
        child = top-child s (at R q) h own.top heading-within is-top (λ e. absurd (omega arith));
        sought = top-sought s (closers_end R q) (at R q) h own.top;
      })

  -- ---- its section

  group-placed : Placed R h k (suc k) g H
  group-placed =
      placed_first group-here at-heading
      (heads-outside (suc k) k' hd (omega arith) (λ x z. inl (split m x
      (λ a. omega (arith, nearest-here x k m hs a))
      (λ a. omega (arith, nearest-skip x k m hs a, (ready x z).before)))))

  in_group : (j : ℕ) → k < j → j < k' → InGroup k (at R j)
  in_group = section-at s h top k R H group-here

  -- ---- the parents of the headings after it

  -- itself, of those with more stars
  ready-this : (x : ℕ) → m < x → Ready s R p' k' x k (at R k)
  unfolding holds_sections
  ready-this x a =
      rw at-heading
      (record {
        before = omega arith;
        top = tt;
        heading = inl refl;
        fewer = a;
        far = λ j b c e. absurd (omega (arith, in_group j b c));
        inside = λ j b c. (in_group j b c).from;
        from = next_line-from s is_heading i;
        to = next_up_to-next s p m;
      })

  -- a heading with no more stars has no later parent
  nearest-order : (x : ℕ) → 0 < x → x ≤ m → nearest x hs ≤ q
  nearest-order x z a =
      let r = ready x z in
      split q (nearest x hs)
      (λ b. on r.heading (λ e. absurd (omega (arith, own.far (nearest x hs) b r.before e, r.fewer))) (λ e. omega arith))
      (λ b. b)

  -- the parents of those with no more stars stay
  ready-earlier : (x : ℕ) → 0 < x → x ≤ m → Ready s R p' k' x (nearest x hs) (at R (nearest x hs))
  ready-earlier x z a =
      let r = ready x z in
      let group : All (λ t. nearest x hs ≤ t.parent) g = all_map (λ t o. omega (arith, r.before)) (group-own s p l hs k) in
      record {
        before = omega (arith, r.before);
        top = r.top;
        heading = r.heading;
        fewer = r.fewer;
        far = λ j b c e. split j k (λ u. r.far j b u e)
            (λ u. split k j (λ v. absurd (omega (arith, in_group j v c)))
            (λ v. let t : j ≡ k = omega arith in rw (t, at-heading) a));
        inside = inside-more R (h ∷ g) H (nearest x hs) k d r.inside (all_cons {a = h} (nearest-order x z a) group) k' (omega arith);
        from = omega (arith, r.from, next_line-from s is_heading i);
        to = r.to ∙ next_up_to-past s p (at R (nearest x hs)).detail (omega (arith, r.fewer));
      }

  ready-next : AllReady s R p' k' ((k, m) ∷ hs)
  ready-next x z =
      split m x
      (λ a. rw (nearest-here x k m hs a) (ready-this x a))
      (λ a. rw (nearest-skip x k m hs a) (ready-earlier x z a))

-- ---- all headings

pub heads-local : {s : List ℕ} {hs : Earlier} {p k : ℕ} {H : List Record} → Heads s hs p k H → (R : List Record) → drop k R ≡ H
    → AllReady s R p k hs → (j : ℕ) → k ≤ j → j < length R → Local s R j
heads-local {k = k} (heads-none e) R d ready j a b = absurd (omega (arith, length-drop k R, ap length d))
heads-local {s = s} {hs = hs} {p = p} {k = k} (heads-step {H = H} l y hd) R d ready j a b =
    let g = group_at s hs p k in
    let next = drop-run R g H (suc k) (group-here R l y hd d ready) (suc k + length g) refl in
    split k j
    (λ c. split j (suc k + length g)
    (section-local s (heading_at s hs p) (heading-top s p l hs) k R H (group-placed R l y hd d ready) j c)
    (λ f. heads-local hd R next (ready-next R l y hd d ready) j f b))
    (λ c. let e : k ≡ j = omega arith in subst (Local s R) e (local-heading R l y hd d ready))
