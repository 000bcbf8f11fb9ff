-- `rules::item::find_bullet` meets its contract: a law for each way out.
-- Assumes nothing.
use Rattle.std.proofs.Common.{of_calls, arith}
use Rattle.rules.specs.Items.{is_sign}
use Rattle.rules.proofs.Laws.Bullets.{is_sign-newline, body-on, bullet-sign, bullet-number, bullet-nothing}
use Rattle.rules.proofs.item.find_bullet.Goals as goal

pub after_last-requires-clause-bounds : goal.after_last-requires-clause-bounds
after_last-requires-clause-bounds c = let pre = c.requires in let o = body-on _ _ _ _ pre.2 pre.0 pre.1 in omega arith

pub returns-in-Some : goal.returns-in-Some
returns-in-Some c =
    let pre = c.requires in
    bullet-sign _ _ _ _ pre.2 pre.0 pre.1 _
    (c.in-Some.ensures (is_sign _) (record { newline = is_sign-newline _; is = λ b l r h. search of_calls }))

pub after_number-requires : goal.after_number-requires
after_number-requires c = let pre = c.requires in let o = body-on _ _ _ _ pre.2 pre.0 pre.1 in omega arith

pub returns-in_err-end : goal.returns-in_err-end
returns-in_err-end c =
    let pre = c.requires in
    rw c.from_residual.ensures
    (bullet-nothing _ _ _ _ pre.2 pre.0 pre.1
    (c.in_default.ensures (is_sign _) (record { newline = is_sign-newline _; is = λ b l r h. search of_calls })) c.in_err-end.ensures)

pub returns : goal.returns
returns c =
    let pre = c.requires in
    bullet-number _ _ _ _ pre.2 pre.0 pre.1 _
    (c.in_default.ensures (is_sign _) (record { newline = is_sign-newline _; is = λ b l r h. search of_calls })) c.in_ok-end.ensures
