-- `sheet::judge::judge` meets its contract: each refusal in turn.
use mathlib.Core.Path.{sym, ◌∙◌}
use Rattle.sheet.proofs.Laws.Judged.{judged-none, judged-title, judged-value, judged-name, judged-repeated, judged-accepted}
use Rattle.sheet.proofs.judge.judge.Goals.{then-is_bad_text-via-then-is_bad_text, then-is_bad_text-via-else-is_bad_text+then-has_bad_value}
use Rattle.sheet.proofs.judge.judge.Goals as goal

pub returns-in_default : goal.returns-in_default
returns-in_default c = judged-none _ c.in_default.ensures

pub returns-then-is_bad_text : goal.returns-then-is_bad_text
returns-then-is_bad_text c = elim c.then-is_bad_text.branch [
  | then-is_bad_text-via-then-is_bad_text w ↦ judged-title _ _ c.in-Some.ensures.1 (sym c.is_bad_text.ensures ∙ w.if-is_bad_text.true)
  | then-is_bad_text-via-else-is_bad_text+then-has_bad_value w ↦
      judged-value _ _ c.in-Some.ensures.1
      (sym c.is_bad_text.ensures ∙ w.if-is_bad_text.false)
      (sym w.has_bad_value.ensures ∙ w.if-has_bad_value.true)
]

pub returns-then-has_bad_name : goal.returns-then-has_bad_name
returns-then-has_bad_name c =
    judged-name _ _ c.in-Some.ensures.1
    (sym c.is_bad_text.ensures ∙ c.if-is_bad_text.false)
    (sym c.has_bad_value.ensures ∙ c.if-has_bad_value.false)
    (sym c.has_bad_name.ensures ∙ c.if-has_bad_name.true)

pub returns-then-repeats_key : goal.returns-then-repeats_key
returns-then-repeats_key c =
    judged-repeated _ _ c.in-Some.ensures.1
    (sym c.is_bad_text.ensures ∙ c.if-is_bad_text.false)
    (sym c.has_bad_value.ensures ∙ c.if-has_bad_value.false)
    (sym c.has_bad_name.ensures ∙ c.if-has_bad_name.false)
    (sym c.repeats_key.ensures ∙ c.if-repeats_key.true)

pub returns : goal.returns
returns c = (
  c.in-Some.ensures.0,
  judged-accepted _ _ c.in-Some.ensures.1
      (sym c.is_bad_text.ensures ∙ c.if-is_bad_text.false)
      (sym c.has_bad_value.ensures ∙ c.if-has_bad_value.false)
      (sym c.has_bad_name.ensures ∙ c.if-has_bad_name.false)
      (sym c.repeats_key.ensures ∙ c.if-repeats_key.false),
)
