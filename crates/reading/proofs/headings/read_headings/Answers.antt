-- `reading::headings::read_headings` meets its contract: each turn absorbs the next heading with its section.
-- Assumes nothing.
use Rattle.std.proofs.Common.{refl, ◌∙◌, ◌∷◌, arith}
use Rattle.rules.specs.Headings.{stars}
use Rattle.table.specs.Sections.{line_at}
use Rattle.reading.proofs.Laws.SectionPlaces.{heading-after}
use Rattle.reading.proofs.Laws.Tracked.{tracked-entry}
use Rattle.reading.proofs.Laws.Turns.{headings-none, heading-turn}
use Rattle.reading.proofs.headings.read_headings.Goals as goal

pub loop-turn-preserved : goal.loop-turn-preserved
loop-turn-preserved c =
    let loop = c.loop-turn in
    let here = loop.invariant.here in
    let some = c.loop-turn-test.true in
    let (less, next, count, line) = c.read_heading-turn.ensures.at_lt_next in
    record {
      here = rw next (heading-after _ _ here some);
      line = line;
      small = omega (arith, here);
      count = count;
      way = λ hs index tracked.
          let w = loop.invariant.way hs index tracked in
          let made = c.read_heading-turn.ensures.takes w.earlier w.index w.tracked in
          record {
            earlier = (loop.turn.sink.count, stars (line_at _ loop.turn.next)) ∷ w.earlier;
            index = refl;
            tracked = tracked-entry w.tracked _ _ made;
            same = rw next (heading-turn _ _ _ _ _ some made ∙ w.same);
          };
    }

pub returns : goal.returns
returns c = λ hs index tracked. headings-none _ _ _ _ c.loop-turn-test.false ∙ (c.loop-turn.invariant.way hs index tracked).same
