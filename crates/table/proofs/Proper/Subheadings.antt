-- The section of a document or heading and the headings right under it fill its inner span: each of these headings ends at the next one, since that has
-- as many stars or fewer, and the last at the container's end. Headings with more stars in between are deeper.
-- Assumes nothing.
use mathlib.Core.Path.{◌≡◌, refl, sym, ◌∙◌, subst₂}
use mathlib.Core.Logic.{inl, inr}
use mathlib.Core.Bool.{true}
use mathlib.Core.List.{List, ◌∷◌, ◌++◌}
use Prim.Native.Nat.{ℕ, suc, ◌+◌, ◌≤◌, ◌<◌}
use native.Mathlib.Omega.{arith}
use lib.ListN.{length}
use Rattle.text.proofs.Laws.LinesIn.{next_line-from, next_line-to, next_line-here, next_line-skip, next_line-through}
use Rattle.rules.specs.Headings.{is_heading, is_heading_up_to}
use Rattle.rules.proofs.Laws.Headings.{stars-some, up_to-yes, up_to-no, up_to-heading}
use Rattle.table.specs.Proper.{with_parent, Tiled}
use Rattle.table.specs.Reading.{section, nearest}
use Rattle.table.specs.Sections.{line_at, section_end}
use Rattle.table.proofs.Basics.{split}
use Rattle.table.proofs.Laws.Proper.{with_parent-yes, with_parent-no}
use Rattle.table.proofs.Laws.Reading.{Earlier, nearest-here, nearest-skip, stars_at, next_heading, next_up_to, heading_at, group_at}
use Rattle.table.proofs.Proper.Heads.{Begins, Heads, heads-none, heads-step, stars_at-le, heading-top, Apart, heads-outside}
use Rattle.table.proofs.Proper.Sections.{Top, section-none, top-filled}
use Rattle.table.proofs.Proper.Stands.{Filled, with_parent-outside}
use Rattle.table.specs.declared.record.Record.{Record}

-- ---- the next heading line with n stars or fewer

module _ (s : List ℕ) (p : ℕ) where
  next_up_to-here : (n : ℕ) → is_heading (line_at s p) ≡ true → stars_at s p ≤ n → next_up_to s n p ≡ p
  next_up_to-here n y h = next_line-here s (is_heading_up_to n) p (up_to-yes n (line_at s p) y h)

  next_up_to-end : (n : ℕ) → p ≡ length s → next_up_to s n p ≡ p
  next_up_to-end n e = omega (arith, next_line-from s (is_heading_up_to n) p, next_line-to s (is_heading_up_to n) p (omega arith))

  -- past what is no heading line
  pub next_up_to-next : (n : ℕ) → next_up_to s n (p + length (line_at s p)) ≡ next_up_to s n (next_heading s p)
  next_up_to-next n = next_line-through s (is_heading_up_to n) is_heading (p + length (line_at s p)) (up_to-heading n)

  -- past a heading line with more stars
  pub next_up_to-past : (n : ℕ) → n < stars_at s p → next_up_to s n p ≡ next_up_to s n (next_heading s p)
  next_up_to-past n h = next_line-skip s (is_heading_up_to n) p (up_to-no n (line_at s p) h) ∙ next_up_to-next n

-- ---- record i is open

-- m are its own stars, and x those of its last child, before that the text's length, which no heading line passes:
-- of the headings to come it gets the next with more than m stars and no more than x
pub record Open (s : List ℕ) (i m x : ℕ) (hs : Earlier) : Type 0 where
  pub order : m ≤ x
  pub child : (y : ℕ) → m < y → y ≤ x → nearest y hs ≡ i
  pub deep : (y : ℕ) → x < y → y ≤ length s → nearest y hs ≡ i → ⊥
  pub out : (y : ℕ) → 0 < y → y ≤ m → nearest y hs ≡ i → ⊥

module _ (s : List ℕ) (i m : ℕ) where
  -- past a heading of index k with v stars: z takes the place of x, v after a child and x after a deeper heading
  open_more : (k v x z : ℕ) (hs : Earlier) → i < k → m ≤ z → z ≤ x → z ≤ v → ((y : ℕ) → z < y → y ≤ v → nearest y hs ≡ i → ⊥)
      → Open s i m x hs → Open s i m z ((k, v) ∷ hs)
  open_more k v x z hs ik mz zx zv f o =
      record {
        order = mz;
        child = λ y a b. nearest-skip y k v hs (omega arith) ∙ o.child y a (omega arith);
        deep = λ y a b e. split v y (λ c. omega (arith, nearest-here y k v hs c)) (λ c. f y a c (sym (nearest-skip y k v hs c) ∙ e));
        out = λ y a b e. o.out y a b (sym (nearest-skip y k v hs (omega arith)) ∙ e);
      }

  -- after a heading with m stars or fewer it gets no more
  open-shut : (k v x : ℕ) (hs : Earlier) → i < k → v ≤ m → Open s i m x hs → Apart i (suc i) ((k, v) ∷ hs)
  open-shut k v x hs ik vm o y z =
      split v y
      (λ c. rw (nearest-here y k v hs c) (inr ik))
      (λ c. rw (nearest-skip y k v hs c) (split (nearest y hs) i inl (λ d. inr (omega (arith, o.out y z (omega arith))))))

  -- ---- the heading at p, of index k, with v stars

  module _ {hs : Earlier} {p k : ℕ} {H : List Record} {x : ℕ} (l : Begins s p) (y : is_heading (line_at s p) ≡ true)
      (hd : Heads s ((k, stars_at s p) ∷ hs) (next_heading s p) (suc k + length (group_at s hs p k)) H) (ik : i < k) (o : Open s i m x hs) where
    abbrev v : ℕ
    v = stars_at s p

    abbrev h : Record
    h = heading_at s hs p

    abbrev g : List Record
    g = group_at s hs p k

    -- the children of i from p on, and from the next heading line on
    abbrev Here : Type 0
    Here = Tiled (next_up_to s x p) (next_up_to s m p) (with_parent i (h ∷ (g ++ H)))

    abbrev Next : ℕ → Type 0
    Next z = Tiled (next_up_to s z (next_heading s p)) (next_up_to s m (next_heading s p)) (with_parent i H)

    none-in-group : with_parent i (g ++ H) ≡ with_parent i H
    none-in-group = section-none s h (heading-top s p l hs) k i H ik

    -- with more stars than the last child
    deeper-open : x < v → Open s i m x ((k, v) ∷ hs)
    deeper-open c =
        open_more k v x x hs ik o.order (omega arith) (omega arith) (λ z a b. o.deep z a (omega (arith, stars_at-le s p l.inside))) o

    deeper-tiled : x < v → Next x → Here
    deeper-tiled c t =
        let none = with_parent-no i h (g ++ H) (o.deep v c (stars_at-le s p l.inside)) in
        rw (none, none-in-group, next_up_to-past s p x c, next_up_to-past s p m (omega (arith, o.order))) t

    -- a child
    child-open : m < v → v ≤ x → Open s i m v ((k, v) ∷ hs)
    child-open d c = open_more k v x v hs ik (omega arith) c (omega arith) (λ z a b e. omega arith) o

    child-tiled : m < v → v ≤ x → Next v → Here
    unfolding Tiled
    child-tiled d c t =
        let one = with_parent-yes i h (g ++ H) (o.child v d c) in
        rw (one, none-in-group, next_up_to-here s p x y c, next_up_to-past s p m d) (refl, rw (next_up_to-next s p v) t)

    -- with no more stars than i
    shut-tiled : v ≤ m → Here
    unfolding Tiled
    shut-tiled d =
        let none = with_parent-no i h (g ++ H) (o.out v (stars-some (line_at s p) y) d) in
        let later = heads-outside i (suc i) hd (omega arith) (open-shut k v x hs ik d o) in
        rw (none, none-in-group, with_parent-outside i later (omega arith) (omega arith))
        (next_up_to-here s p x y (omega (arith, o.order)) ∙ sym (next_up_to-here s p m y d))

  -- the children of i among the headings from p on are laid end to end, to the next heading line with no more stars than i
  heads-tiled : {hs : Earlier} {p k : ℕ} {H : List Record} (x : ℕ) → Heads s hs p k H → i < k → Open s i m x hs
      → Tiled (next_up_to s x p) (next_up_to s m p) (with_parent i H)
  unfolding Tiled with_parent
  heads-tiled {p = p} x (heads-none e) ik o = next_up_to-end s p x e ∙ sym (next_up_to-end s p m e)
  heads-tiled {p = p} x (heads-step l y hd) ik o =
      let v = stars_at s p in
      split m v
      (λ d. split x v
      (λ c. deeper-tiled l y hd ik o c (heads-tiled x hd (omega arith) (deeper-open l y hd ik o c)))
      (λ c. child-tiled l y hd ik o d c (heads-tiled v hd (omega arith) (child-open l y hd ik o d c))))
      (shut-tiled l y hd ik o)

-- ---- the children of a document or heading

heads-here : {s : List ℕ} {hs : Earlier} {p k : ℕ} {H : List Record} → Heads s hs p k H → next_up_to s (length s) p ≡ p
heads-here {s = s} {p = p} (heads-none e) = next_up_to-end s p (length s) e
heads-here {s = s} {p = p} (heads-step l y hd) = next_up_to-here s p (length s) y (stars_at-le s p l.inside)

-- its section, and the headings after that
pub heads-filled : (s : List ℕ) (c : Record) (q k : ℕ) (hs : Earlier) (H : List Record) → Top s c → Heads s hs (section_end s c) k H → q < k
    → Open s q c.detail (length s) hs → Filled s c (with_parent q (section s c q (suc q) ++ H))
unfolding section_end
heads-filled s c q k hs H top hd l o =
    let m = c.detail in
    let to = top.end ∙ next_line-through s (is_heading_up_to m) is_heading c.from (up_to-heading m) in
    top-filled s c top q H (subst₂ (λ (a e : ℕ). Tiled a e (with_parent q H)) (heads-here hd) (sym to) (heads-tiled s q m (length s) hd l o))
