-- `stream::state::is_open` meets its contract: each test in its turn.
use Rattle.std.proofs.Common.{◌≡◌, sym, ◌∙◌, true, false, ◌-◌, ◌≤◌, ◌<◌, ltb, eqb}
use borrow.Author.Tests.{eq-eqb, ne_eqb, le-leb, lt-leb}
use Rattle.text.specs.Limits.{text_limit}
use Rattle.stream.specs.declared.state.Stream.{Stream}
use Rattle.stream.specs.Steps.{in_heading}
use Rattle.stream.specs.Call.{has_line, is_open}
use Rattle.stream.proofs.Laws.Steps.{heading-le}
use Rattle.stream.proofs.state.is_open.Goals as goal

module _ (c : Stream) where
  closed : (c.ended ≡ 0 → ⊥) → false ≡ is_open c
  unfolding is_open
  closed h = rw (ne_eqb c.ended 0 h)

  module _ (h : c.ended ≡ 0) where
    long : text_limit < c.total → false ≡ is_open c
    unfolding is_open
    long i = rw (eq-eqb c.ended 0 h, lt-leb c.total text_limit i)

    module _ (i : c.total ≤ text_limit) where
      outside : c.total < c.line → false ≡ is_open c
      unfolding is_open
      outside j = rw (eq-eqb c.ended 0 h, le-leb c.total text_limit i, lt-leb c.line c.total j)

      module _ (j : c.line ≤ c.total) where
        by-line : is_open c ≡ has_line c
        unfolding is_open
        by-line = rw (eq-eqb c.ended 0 h, le-leb c.total text_limit i, le-leb c.line c.total j)

        by-title : in_heading c ≡ true → ltb c.title (c.line - c.stars) ≡ is_open c
        unfolding has_line
        by-title k = sym (by-line ∙ rw (k, has_line))

        module _ (k : in_heading c ≡ false) where
          titled : (c.title ≡ 0 → ⊥) → false ≡ is_open c
          unfolding has_line
          titled l = sym (by-line ∙ rw (k, ne_eqb c.title 0 l, has_line))

          module _ (l : c.title ≡ 0) where
            bare : c.stars ≡ 0 → eqb c.stars 0 ≡ is_open c
            unfolding has_line
            bare m = eq-eqb c.stars 0 m ∙ sym (by-line ∙ rw (k, eq-eqb c.title 0 l, eq-eqb c.stars 0 m, has_line))

            by-stars : (c.stars ≡ 0 → ⊥) → eqb c.stars c.line ≡ is_open c
            unfolding has_line
            by-stars m = sym (by-line ∙ rw (k, eq-eqb c.title 0 l, ne_eqb c.stars 0 m, has_line))

pub returns-then-state-ne0 : goal.returns-then-state-ne0
returns-then-state-ne0 c = closed _ c.if-state-ne0.true

pub returns-then-state-gt-TEXT : goal.returns-then-state-gt-TEXT
returns-then-state-gt-TEXT c = long _ c.if-state-ne0.false c.if-state-gt-TEXT.true

pub returns-then-state : goal.returns-then-state
returns-then-state c = outside _ c.if-state-ne0.false c.if-state-gt-TEXT.false c.if-state.true

pub overflow_sub-result : goal.overflow_sub-result
overflow_sub-result c = heading-le _ (sym c.in_heading.ensures ∙ c.if-in_heading.true)

pub returns-then-in_heading : goal.returns-then-in_heading
returns-then-in_heading c =
    by-title _ c.if-state-ne0.false c.if-state-gt-TEXT.false c.if-state.false (sym c.in_heading.ensures ∙ c.if-in_heading.true)

pub returns-then-state-ne0-2 : goal.returns-then-state-ne0-2
returns-then-state-ne0-2 c =
    titled _ c.if-state-ne0.false c.if-state-gt-TEXT.false c.if-state.false (sym c.in_heading.ensures ∙ c.if-in_heading.false) c.if-state-ne0-2.true

pub returns-then-state-eq0 : goal.returns-then-state-eq0
returns-then-state-eq0 c =
    bare _ c.if-state-ne0.false c.if-state-gt-TEXT.false c.if-state.false (sym c.in_heading.ensures ∙ c.if-in_heading.false) c.if-state-ne0-2.false
    c.if-state-eq0.true

pub returns-else-state-eq0 : goal.returns-else-state-eq0
returns-else-state-eq0 c =
    by-stars _ c.if-state-ne0.false c.if-state-gt-TEXT.false c.if-state.false (sym c.in_heading.ensures ∙ c.if-in_heading.false) c.if-state-ne0-2.false
    c.if-state-eq0.false
