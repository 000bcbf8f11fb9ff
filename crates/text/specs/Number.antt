-- The numbers of an answer  [01 "Numbers of an answer", 02 orders 1, 2, 5, 6 and 9].
use Rattle.std.specs.Prelude.{ℕ}

abbrev pub done : ℕ
done = 0

abbrev pub too_long : ℕ
too_long = 1

abbrev pub too_deep : ℕ
too_deep = 2

abbrev pub no_room : ℕ
no_room = 3

abbrev pub no_heading : ℕ
no_heading = 4

abbrev pub no_drawer : ℕ
no_drawer = 5

abbrev pub no_key : ℕ
no_key = 6

abbrev pub bad_key : ℕ
bad_key = 7

abbrev pub blank_first : ℕ
blank_first = 8

abbrev pub not_property : ℕ
not_property = 9

abbrev pub not_closed : ℕ
not_closed = 10

abbrev pub no_day : ℕ
no_day = 11

abbrev pub bad_order : ℕ
bad_order = 12

abbrev pub bad_text : ℕ
bad_text = 13

abbrev pub bad_name : ℕ
bad_name = 14

abbrev pub repeated_key : ℕ
repeated_key = 15

abbrev pub short_output : ℕ
short_output = 16

abbrev pub missing_key : ℕ
missing_key = 17

abbrev pub bad_used : ℕ
bad_used = 18

abbrev pub seen : ℕ
seen = 19

abbrev pub not_open : ℕ
not_open = 21

abbrev pub cut_log : ℕ
cut_log = 27
