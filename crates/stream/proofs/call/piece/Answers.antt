-- `stream::call::piece` meets its contract: the state, the limit and the room in turn, and nothing is written before.
use Rattle.std.proofs.Common.{◌≡◌, sym, ◌∙◌, true, List, ℕ, ◌+◌, ◌≤◌, length, arith}
use Rattle.text.specs.Limits.{text_limit}
use Rattle.stream.specs.declared.state.Stream.{Stream}
use Rattle.stream.specs.Call.{is_open}
use Rattle.stream.specs.Steps.{finished}
use Rattle.stream.specs.Spans.{Within}
use Rattle.stream.proofs.Laws.Lists.{numbers-room}
use Rattle.stream.proofs.Laws.Open.{tests, open-stars}
use Rattle.stream.proofs.Laws.Turns.{answers, answers-short, answers-done, piece-closed, piece-long, piece-open}
use Rattle.stream.proofs.Promises.{settled}
use Rattle.stream.proofs.call.piece.Goals as goal

within : (c : Stream) (x : List ℕ) → is_open c ≡ true → c.total + length x ≤ text_limit → Within c x 0
within c x o h = record { stars = open-stars c o; line = (tests c o).line; total = omega (arith, h) }

pub returns-then-not-is_open : goal.returns-then-not-is_open
returns-then-not-is_open c =
    let o = sym c.is_open.ensures ∙ c.if-not-is_open.true in
    settled _ _ _ _ _ (answers c.answered.ensures (piece-closed _ _ _ o))

pub overflow_sub-state : goal.overflow_sub-state
overflow_sub-state c = let o = sym c.is_open.ensures ∙ c.if-not-is_open.false in (tests _ o).total

pub returns-then-state-bytes : goal.returns-then-state-bytes
returns-then-state-bytes c =
    let o = sym c.is_open.ensures ∙ c.if-not-is_open.false in
    settled _ _ _ _ _ (answers c.answered-then-state-bytes.ensures (piece-long _ _ _ o (omega (arith, c.if-state-bytes.true, (tests _ o).total))))

-- the piece has room in the book
pub count_finished-count-requires : goal.count_finished-count-requires
count_finished-count-requires c =
    let o = sym c.is_open.ensures ∙ c.if-not-is_open.false in
    within _ _ o (omega (arith, c.if-state-bytes.false, (tests _ o).total))

pub returns-then-list-count : goal.returns-then-list-count
returns-then-list-count c =
    let o = sym c.is_open.ensures ∙ c.if-not-is_open.false in
    let fits : c.args.state.total + length c.args.bytes.now ≤ text_limit = omega (arith, c.if-state-bytes.false, (tests _ o).total) in
    settled _ _ _ _ _
    (rw (piece-open _ _ _ o fits) (answers-short _ _ _ _ c.answered-then-list-count.ensures c.count_finished-count.ensures c.if-list-count.true))

-- what it finishes has room in the list
pub put_finished-requires : goal.put_finished-requires
put_finished-requires c =
    let a = c.args in
    let o = sym c.is_open.ensures ∙ c.if-not-is_open.false in
    let n = c.count_finished-count.ensures in (
      within _ _ o (omega (arith, c.if-state-bytes.false, (tests _ o).total)),
      numbers-room (finished a.state a.bytes.now) a.list.now (omega (arith, c.if-list-count.false, n)),
    )

pub returns : goal.returns
returns c =
    let o = sym c.is_open.ensures ∙ c.if-not-is_open.false in
    let fits : c.args.state.total + length c.args.bytes.now ≤ text_limit = omega (arith, c.if-state-bytes.false, (tests _ o).total) in
    let put = c.put_finished.ensures in
    let n = c.count_finished-count.ensures in
    settled _ _ _ _ _
    (rw (piece-open _ _ _ o fits) (answers-done _ _ _ _ c.answered-2.ensures put.value n c.if-list-count.false put.list_after))
