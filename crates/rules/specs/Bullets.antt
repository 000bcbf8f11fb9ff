-- What the code finds on an item line: where its bullet ends, and where what is left on it starts  [02 order 4].
use Rattle.std.specs.Prelude.{◌≡◌, Bool, true, false, List, [], ◌∷◌, ℕ, ◌+◌, ◌-◌, ◌≤◌, ◌<◌, ltb, length}
use Rattle.std.proofs.Math.Option.{Option, none, some}
use Rattle.std.specs.declared.option.Option as Options
use Rattle.std.specs.declared.option.Option.TheVariants.{None, Some}
use Rattle.text.specs.Bytes.{is_blank, is_indent}
use Rattle.text.specs.Runs.{after_run}
use Rattle.text.specs.Lines.{Line, indent}
use Rattle.text.specs.Parts.{line_in}
use Rattle.rules.specs.Items.{Part, after_byte, ended, after_all, after_sign, after_number, after_set, after_box, past}
use Rattle.rules.specs.declared.item.Bullet.{Bullet}

-- the bullet of a line at byte p, with the byte right after it
unfoldable pub bullet_of : ℕ → Line → Options.Option Bullet
bullet_of p l =
    let x = after_run is_indent l in
    elim (after_sign (ltb 0 (indent l)) x) [
      | some y ↦ Some (record { numbered = false; end = p + (length l - length y) })
      | none ↦ elim (after_number x) [
        | some y ↦ Some (record { numbered = true; end = p + (length l - length y) })
        | none ↦ None
      ]
    ]

-- what is left of a line after its bullet: past blank bytes, a counter set and a check box; and where that starts, of what stands at byte p
unfoldable pub after_marks : List ℕ → List ℕ
after_marks x = past after_box (past after_set (after_run is_blank x))

unfoldable pub marks_end : ℕ → List ℕ → ℕ
marks_end p x = p + (length x - length (after_marks x))

-- a byte that passes a test, with a blank byte or line end after it
abbrev pub after_last : (ℕ → Bool) → Part
after_last f = after_all (after_byte f ∷ ended ∷ [])

-- ---- for contracts: what code found on the line from byte p up to byte e, the byte after it, is where what is left starts

abbrev pub left_at : List ℕ → ℕ → Options.Option ℕ → Option (List ℕ)
left_at s e None = none
left_at s e (Some q) = some (line_in s q e)

-- byte q stands on the line, or at its end
pub record OnLine (s : List ℕ) (p e q : ℕ) : Type 0 where
  pub from : p ≤ q
  pub to : q ≤ e
  pub end : q + length (line_in s q e) ≡ p + length (line_in s p e)

abbrev pub FoundOn : List ℕ → ℕ → ℕ → Options.Option ℕ → Type 0
FoundOn s p e None = Unit {0}
FoundOn s p e (Some q) = OnLine s p e q

pub record Leaves (s : List ℕ) (p e : ℕ) (f : Part) (r : Options.Option ℕ) : Type 0 where
  pub is : f (line_in s p e) ≡ left_at s e r
  pub on : FoundOn s p e r

-- what a closure answers of a byte is a test that byte 10 does not pass
pub record Tests (post : ℕ → Bool → Type 0) (t : ℕ → Bool) : Type 0 where
  pub newline : t 10 ≡ false
  pub is : (b : ℕ) → b < 256 → (r : Bool) → post b r → r ≡ t b
