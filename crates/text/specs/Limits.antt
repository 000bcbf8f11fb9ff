-- Limits  [01 "Numbers of an answer"].
use Rattle.std.specs.Prelude.{ℕ}

-- a text's bytes
abbrev pub text_limit : ℕ
text_limit = 65536

-- the depth of a drawer or greater block
abbrev pub depth_limit : ℕ
depth_limit = 32

-- a key's bytes
abbrev pub key_limit : ℕ
key_limit = 64
