-- The section of a document or heading stands as a proper table asks, with what it holds.
-- Assumes nothing.
use mathlib.Core.Path.{◌≡◌, refl, sym, ap, ◌∙◌, subst}
use mathlib.Core.List.{List, [], ◌∷◌, ◌++◌}
use Prim.Native.Nat.{ℕ, suc, ◌+◌, ◌-◌, ◌*◌, ◌≤◌, ◌<◌}
use native.Mathlib.Omega.{arith}
use lib.Dec.{T}
use lib.ListN.{length, drop, length-drop}
use Rattle.text.specs.Parts.{first_line, LineStart}
use Rattle.text.proofs.Laws.LinesIn.{first_line-from, first_line-to, first_line-next, next_line-wider}
use Rattle.text.proofs.Laws.LineStarts.{line_start-next, line_start-first}
use Rattle.rules.specs.Headings.{is_heading, is_heading_up_to}
use Rattle.rules.specs.Kind
use Rattle.rules.specs.Kind.{holds_sections, holds_elements, is_holder, is_bound}
use Rattle.rules.proofs.Basics.{All, all_nil, all_cons, all_map, all_get_d}
use Rattle.rules.proofs.Laws.Headings.{heading-nonblank, up_to-heading}
use Rattle.rules.proofs.Laws.Kind.{sections-low, sections-holder, elements-high}
use Rattle.table.specs.Proper.{with_parent, Tiled, IsSectionRecord, IsTopRecord, Within}
use Rattle.table.specs.Reading.{section}
use Rattle.table.specs.Records.{no_record, at}
use Rattle.table.specs.Sections.{section_end, section_start}
use Rattle.table.specs.Closers.{closers_end, Sought}
use Rattle.table.proofs.Basics.{split}
use Rattle.table.proofs.Laws.Proper.{with_parent-append, with_parent-yes, with_parent-from}
use Rattle.table.proofs.Laws.Reading.{section_of, section_contents, section-yes, section-no, next_up_to}
use Rattle.table.proofs.Laws.Records.{at-run, at_head, drop_head}
use Rattle.table.proofs.Laws.Closers.{ends-bound}
use Rattle.table.proofs.Laws.Sections.{section_end-from, section_end-to, section_start-from, section_start-to, section_start-first, section_start-plain}
use Rattle.table.proofs.Laws.Fits.{left-to}
use Rattle.table.proofs.Proper.Contents.{contents-forest}
use Rattle.table.proofs.Proper.Forest.{Forest, own-from, owned, forest-filled, forest-local}
use Rattle.table.proofs.Proper.Sync.{Sync, bound-first}
use Rattle.table.proofs.Proper.Stands.{Child, Filled, SectionAfter, Local, stands-local, outside_wider, Placed, placed_first}
use Rattle.table.specs.declared.record.Record.{Record}

-- c is a document or heading
pub record Top (s : List ℕ) (c : Record) : Type 0 where
  pub kind : T (holds_sections c.kind)
  pub start : LineStart s c.from
  pub text : c.from ≤ length s
  pub end : c.to ≡ next_up_to s c.detail c.from

-- r is the section of record q, or inside it
pub record InGroup (q : ℕ) (r : Record) : Type 0 where
  pub from : q ≤ r.parent
  pub kind : Kind.section ≤ r.kind

-- what a document or heading asks of its section or subheading
pub top-child : (s : List ℕ) (c r : Record) → T (holds_sections c.kind) → Within c r → IsTopRecord s c r
    → (r.kind ≡ Kind.section → (r.start ≡ section_start s c) × (r.end ≡ section_end s c)) → Child s c r
top-child s c r h w top section =
    let low = sections-low c.kind h in
    record {
      holder = sections-holder c.kind h;
      within = w;
      section = section;
      top = λ i. top;
      element = λ i. absurd (omega (arith, elements-high c.kind i));
      item = λ e. absurd (omega arith);
      property = λ e. absurd (omega arith);
      row = λ e. absurd (omega arith);
    }

-- they hold no rules' finds
pub top-sought : (s : List ℕ) (h : ℕ) (c r : Record) → T (holds_sections c.kind) → Sought s h c r
top-sought s h c r i =
    let low = sections-low c.kind i in
    record { element = λ j. absurd (omega (arith, elements-high c.kind j)); item = λ k. absurd (omega arith) }

module _ (s : List ℕ) (c : Record) (top : Top s c) where
  abbrev a : ℕ
  a = section_start s c

  abbrev e : ℕ
  e = section_end s c

  -- ---- where the section stands

  end-text : e ≤ length s
  end-text = section_end-to s c top.text

  end-inner : e ≤ c.to
  unfolding section_end
  end-inner = rw top.end (next_line-wider s (is_heading_up_to c.detail) is_heading c.from (up_to-heading c.detail))

  end-start : LineStart s e
  unfolding section_end
  end-start = line_start-next s c.from top.start is_heading

  section-start : LineStart s a
  unfolding section_start
  section-start = line_start-first s c.from e top.start end-start (section_end-from s c)

  start-to : a ≤ e
  start-to = section_start-to s c top.text

  start-inner : first_line s c.from c.to ≡ a
  start-inner =
      ap (first_line s c.from) top.end
      ∙ first_line-next s (is_heading_up_to c.detail) c.from top.text (λ l h. heading-nonblank l (up_to-heading c.detail l h))
      ∙ sym (section_start-first s c top.text)

  module _ (q : ℕ) where
    abbrev sec : Record
    sec = section_of s c q

    abbrev inner : List Record
    inner = section_contents s c q (suc q)

    -- the section and what it holds; nothing where its lines are all blank
    abbrev group : List Record
    group = section s c q (suc q)

    group-yes : a < e → group ≡ sec ∷ inner
    group-yes = section-yes s c q (suc q)

    group-no : e ≤ a → group ≡ []
    group-no = section-no s c q (suc q)

    -- ---- what the section holds

    inner-sync : Sync s e sec (first_line s a e)
    inner-sync =
        record {
          start = end-start;
          text = end-text;
          bound = λ i. bound-first s a e section-start end-start start-to end-text;
          item = λ k. absurd (omega arith);
          list = λ k. absurd (omega arith);
        }

    inner-forest : Forest s e sec (suc q) (first_line s a e) (suc (suc q)) inner
    unfolding is_holder
    inner-forest =
        let first = first_line s a e in
        let from = first_line-from s a e start-to end-text in
        let to = first_line-to s a e start-to end-text in
        contents-forest (suc (2 * (e - a))) s e sec (suc q) first (suc (suc q))
        (record { holder = tt; kind = omega arith; from = from; to = to; text = end-text }) inner-sync (omega (arith, left-to sec first))

    inner-from : All (λ r. suc q ≤ r.parent) inner
    inner-from = all_map (own-from (suc q) (suc (suc q)) (omega arith)) (owned inner-forest)

    -- ---- the records of the group

    pub section-own : All (InGroup q) group
    section-own =
        split a e
        (λ h. rw (group-yes h)
        (all_cons {a = sec} (omega arith) (all_map (λ r o. omega (arith, own-from (suc q) (suc (suc q)) (omega arith) r o)) (owned inner-forest))))
        (λ h. rw (group-no h) all_nil)

    pub section-none : (i : ℕ) (H : List Record) → i < q → with_parent i (group ++ H) ≡ with_parent i H
    section-none i H l = rw (with_parent-append i group H, with_parent-from i l (all_map (λ r o. o.from) section-own))

    -- the children of c: its section, then what comes after
    pub top-filled : (H : List Record) → Tiled e c.to (with_parent q H) → Filled s c (with_parent q (group ++ H))
    unfolding Tiled
    top-filled H t =
        let none = with_parent-from q (omega arith) inner-from in
        rw start-inner
        (split a e
        (λ h. rw (group-yes h, with_parent-yes q sec (inner ++ H) refl, with_parent-append q inner H, none) (refl, t))
        (λ h. let z : a ≡ e = omega (arith, start-to) in rw (group-no h, z) t))

    -- ---- the group in its place in a table

    pub section-at : (R post : List Record) → drop (suc q) R ≡ group ++ post → (j : ℕ) → q < j → j < suc q + length group → InGroup q (at R j)
    section-at R post d j b f =
        rw (at-run R group post (suc q) d (j - suc q) j (omega arith) (omega arith)) (all_get_d no_record section-own (j - suc q) (omega arith))

    -- where there is a section it comes first
    pub section-after : (R post : List Record) → drop (suc q) R ≡ group ++ post → a < e → SectionAfter R q
    section-after R post d h =
        let d' = rw (group-yes h) at d in
        let f = at_head R (suc q) sec (inner ++ post) d' in
        (omega (arith, length-drop (suc q) R, ap length d'), ap (λ (r : Record). r.kind) f, ap (λ (r : Record). r.parent) f)

    module _ (R post : List Record) (h : a < e) (pl : Placed R c q (suc q) (sec ∷ inner) post) where
      at-section : at R (suc q) ≡ sec
      at-section = at_head R (suc q) sec (inner ++ post) pl.here

      inner-here : drop (suc (suc q)) R ≡ inner ++ post
      inner-here = drop_head R (suc q) sec (inner ++ post) pl.here

      inner-placed : Placed R sec (suc q) (suc (suc q)) inner post
      inner-placed = placed_first inner-here at-section (outside_wider pl.apart (omega arith) (omega arith))

      is-top : IsTopRecord s c sec
      unfolding IsTopRecord IsSectionRecord
      is-top = rw (section_start-plain s c top.text h, IsTopRecord) (record { kind = refl; end = refl; from = refl; to = refl; detail = refl })

      within : Within c sec
      within = record { from = section_start-from s c top.text; some = h; to = end-inner }

      local-section : Local s R (suc q)
      local-section =
          stands-local at-section pl.holder refl
          (record {
            earlier = omega arith;
            together = λ i b d. absurd (omega arith);
            heading = λ k. absurd (omega arith);
            section = λ k. absurd (let low = sections-low Kind.section k in omega arith);
            filled = forest-filled R inner-here (outside_wider pl.apart (omega arith) (omega arith)) inner-forest;
            child = top-child s c sec top.kind within is-top (λ k. (refl, refl));
            sought = top-sought s (closers_end R q) c sec top.kind;
          })

      local-in : (j : ℕ) → q < j → j < suc q + length (sec ∷ inner) → Local s R j
      unfolding is_bound holds_elements
      local-in j b d =
          split (suc q) j
          (λ i. forest-local inner-forest R post inner-placed (ends-bound R (suc q) sec at-section refl) j i (omega arith))
          (λ i. let z : suc q ≡ j = omega arith in subst (Local s R) z local-section)

    pub section-local : (R post : List Record) → Placed R c q (suc q) group post → (j : ℕ) → q < j → j < suc q + length group → Local s R j
    section-local R post pl j b d =
        split a e
        (λ h. local-in R post h (rw (group-yes h) at pl) j b (rw (group-yes h) at d))
        (λ h. absurd (omega (arith, ap length (group-no h))))
