-- The numbers that stand for something else than themselves.
use Rattle.std.specs.Prelude.{ℕ}

-- "32 links (0 to 31)" (R8): the count of them stands for no link
abbrev pub link_count : ℕ
link_count = 32

abbrev pub no_link : ℕ
no_link = 32

-- "A link is out, waiting, open or changing." (R74)
abbrev pub state_out : ℕ
state_out = 0

abbrev pub state_waiting : ℕ
state_waiting = 1

abbrev pub state_open : ℕ
state_open = 2

abbrev pub state_changing : ℕ
state_changing = 3

-- the rings behind those of the links: messages held apart, free user places, free management places
abbrev pub apart_ring : ℕ
apart_ring = 32

abbrev pub free_user_ring : ℕ
free_user_ring = 33

abbrev pub free_management_ring : ℕ
free_management_ring = 34

-- the words of a destination's flags behind the marks of its four routes
abbrev pub t6 : ℕ
t6 = 4

abbrev pub t8 : ℕ
t8 = 5
