-- `stream::call::end` meets its contract: the state and the room in turn, and nothing is written before.
use Rattle.std.proofs.Common.{◌≡◌, sym, ap, ◌∙◌, length, option_to_list}
use Rattle.std.proofs.lemmas.List.Edits.{sets}
use Rattle.stream.specs.Headings.{numbers}
use Rattle.stream.specs.Steps.{last_heading}
use Rattle.stream.proofs.Laws.Lists.{count-one}
use Rattle.stream.proofs.Laws.Open.{tests}
use Rattle.stream.proofs.Laws.Turns.{answers, answers-short, answers-done, end-closed, end-open}
use Rattle.stream.proofs.Promises.{end-settled}
use Rattle.stream.proofs.call.end.Goals as goal
use Rattle.stream.proofs.call.end.Goals.{in-Some, in_default}

pub returns-then-not-is_open : goal.returns-then-not-is_open
returns-then-not-is_open c =
    let o = sym c.is_open.ensures ∙ c.if-not-is_open.true in
    end-settled _ _ _ _ (answers c.answered.ensures (end-closed _ _ o))

pub heading_of-finished-requires : goal.heading_of-finished-requires
heading_of-finished-requires c = (tests _ (sym c.is_open.ensures ∙ c.if-not-is_open.false)).line

pub returns-then-list-count : goal.returns-then-list-count
returns-then-list-count c =
    let o = sym c.is_open.ensures ∙ c.if-not-is_open.false in
    let n = c.from-count.ensures ∙ count-one _ _ c.is_some.ensures ∙ ap length c.heading_of-finished.ensures in
    end-settled _ _ _ _ (rw (end-open _ _ o) (answers-short _ _ _ _ c.answered-then-list-count.ensures n c.if-list-count.true))

pub returns : goal.returns
unfolding numbers
returns c =
    let o = sym c.is_open.ensures ∙ c.if-not-is_open.false in
    let is = c.heading_of-finished.ensures in
    let n = c.from-count.ensures ∙ count-one _ _ c.is_some.ensures ∙ ap length is in
    let l = c.args.list.now in
    let written : c.match-finished.list ≡ sets l 0 (numbers (last_heading c.args.state)) =
    elim c.match-finished.branch [
      | in-Some w ↦ w.list-is ∙ w.put_heading.ensures ∙ ap (λ hs. sets l 0 (numbers hs)) (sym (ap option_to_list w.in-Some.is) ∙ is)
      | in_default w ↦ w.list-is ∙ ap (λ hs. sets l 0 (numbers hs)) (sym (ap option_to_list w.in_default.is) ∙ is)
    ]
    in
    end-settled _ _ _ _ (rw (end-open _ _ o) (answers-done _ _ _ _ c.answered-2.ensures c.with_end.ensures n c.if-list-count.false written))
