-- The rows in which a trace keeps what it knows of held messages: 32 words for each of 256.
use Rattle.std.specs.Prelude.{ℕ, ◌+◌, ◌-◌, ◌*◌, ◌/◌, ◌%◌, Bool, cond, List, [], ◌∷◌, ltb, eqb, get_or, Option, Some, None, is_some, unwrap_or}
use Rattle.std.specs.Int.{w64, to_le_bytes, from_le_bytes}
use Rattle.area_rows.specs.Rows.{word_at, with_row, with_word}
use Rattle.trace_circuits.specs.declared.message.Message.{Message}
use Rattle.trace_circuits.specs.declared.message.Place.{Place}
use Rattle.trace_circuits.specs.declared.message.Place.TheVariants.{Link, Apart}
use Rattle.trace_circuits.specs.declared.message.Sent.{Sent}
use Rattle.trace_rows.specs.declared.held.Move.{Move}

-- whether a word says yes
abbrev pub flag_of : List ℕ → ℕ → ℕ → Bool
flag_of rows row place = ltb 0 (word_at 256 32 rows row place)

-- the letters of a name that the node gave, by its word, the first the lowest octet; 0 stands for none
abbrev pub name_of : ℕ → Option (List ℕ)
name_of word = cond (eqb word 0) None (Some (word % 256 ∷ word / 256 % 256 ∷ word / 65536 % 256 ∷ []))

abbrev pub word_of_name : Option (List ℕ) → ℕ
word_of_name None = 0
word_of_name (Some letters) = get_or letters 0 0 + 256 * (get_or letters 1 0 + 256 * get_or letters 2 0)

-- where a message stands, by its word: a link's number, or 32 where it is held apart
abbrev pub place_of : ℕ → Place
place_of word = cond (eqb word 32) Apart (Link word)

abbrev pub word_of_place : Place → ℕ
word_of_place (Link link) = link
word_of_place Apart = 32

-- how the message of a row left, if it did: with which number, and at which line
abbrev pub sent_at : List ℕ → ℕ → Option Sent
sent_at rows row =
    cond (eqb (word_at 256 32 rows row 10) 0) None
    (Some (record { fsn = word_at 256 32 rows row 11; line = word_at 256 32 rows row 12 }))

-- what a row says of its message
abbrev pub message_at : List ℕ → ℕ → Message
message_at rows row =
    record {
      arrival = word_at 256 32 rows row 0;
      line = word_at 256 32 rows row 1;
      origin = word_at 256 32 rows row 2;
      destination = word_at 256 32 rows row 3;
      sls = word_at 256 32 rows row 4;
      name = name_of (word_at 256 32 rows row 5);
      si = word_at 256 32 rows row 6;
      length = word_at 256 32 rows row 7;
      octets = to_le_bytes w64 (word_at 256 32 rows row 8);
      place = place_of (word_at 256 32 rows row 9);
      sent = sent_at rows row;
      stood = flag_of rows row 13;
      moves = word_at 256 32 rows row 14;
      twice = flag_of rows row 15;
    }

-- the word of yes or no
abbrev pub word_of : Bool → ℕ
word_of flag = cond flag 1 0

-- how a message left, with 0 for both where it didn't
abbrev pub sent_or_none : Message → Sent
sent_or_none message = unwrap_or message.sent (record { fsn = 0; line = 0 })

-- the rows with one that says this of its message; its moves are left as they were
abbrev pub with_message : List ℕ → ℕ → Message → List ℕ
with_message rows row message =
    with_row 256 32 rows row
    (message.arrival ∷
    message.line ∷
    message.origin ∷
    message.destination ∷
    message.sls ∷
    word_of_name message.name ∷
    message.si ∷
    message.length ∷
    from_le_bytes w64 message.octets ∷
    word_of_place message.place ∷
    word_of (is_some message.sent) ∷
    (sent_or_none message).fsn ∷
    (sent_or_none message).line ∷
    word_of message.stood ∷
    message.moves ∷
    word_of message.twice ∷
    [])

-- where a move of a number stands behind the first sixteen words of a row: the last eight are kept, two words each
abbrev pub move_place : ℕ → ℕ
move_place number = 2 * (number % 8)

-- the number that a message had left with, by its word, which is one more; 0 stands for none
abbrev pub fsn_of : ℕ → Option ℕ
fsn_of word = cond (eqb word 0) None (Some (word - 1))

abbrev pub word_of_fsn : Option ℕ → ℕ
word_of_fsn None = 0
word_of_fsn (Some fsn) = fsn % 255 + 1

-- a move: in one word the number that the message left with if it is sent again, and the links that it went from and to, the first the highest part; in the
-- next the line of the record
abbrev pub move_at : List ℕ → ℕ → ℕ → Move
move_at rows row number =
    record {
      from = place_of (word_at 256 32 rows row (move_place number + 16) / 64 % 64);
      to = place_of (word_at 256 32 rows row (move_place number + 16) % 64);
      line = word_at 256 32 rows row (move_place number + 17);
      resent = fsn_of (word_at 256 32 rows row (move_place number + 16) / 4096);
    }

-- the word of a move
abbrev pub move_word : Move → ℕ
move_word made = word_of_fsn made.resent * 4096 + (word_of_place made.from % 64 * 64 + word_of_place made.to % 64)

-- the rows with a move of a number put into its place
abbrev pub with_move : List ℕ → ℕ → ℕ → Move → List ℕ
with_move rows row number made =
    with_word 256 32 (with_word 256 32 rows row (move_place number + 16) (move_word made)) row (move_place number + 17) made.line
