-- The replies: the paper's table, row by row.
use Rattle.std.specs.Prelude.{ℕ, Bool, false, cond, eqb, List, [], ◌∷◌, Result, Ok, Err}
use Rattle.replies.specs.declared.Answer.{Answer}
use Rattle.replies.specs.declared.Refusal.{Refusal}
use Rattle.replies.specs.declared.Refusal.TheVariants.{OutOfRange, NotConfigured, Malformed, Foreign, Unfit, NotNext, NoUserPlace, NoManagementPlace, Inaccessible, NoNumber, NamesNothing}

-- a row of the table: whether it applies, and its number
pub record Row : Type 0 where
  pub applies : Bool
  pub number : ℕ

abbrev pub row : ℕ → Bool → Row
row number applies = record { applies = applies; number = number }

-- "The first row after 0 that applies is the reply" (R60): 0, done, where none does (R41)
unfoldable pub first : List Row → ℕ
first [] = 0
first (here ∷ later) = cond here.applies here.number (first later)

-- what a call leaves: the new where its reply is 0, else what was (R69)
abbrev pub if_done : {A : Type 0} → ℕ → A → A → A
if_done reply new old = cond (eqb reply 0) new old

-- a reply that writes nothing: its counts are 0
abbrev pub plain : ℕ → Answer
plain reply = record { reply = reply; fsn = 0; octets = 0; reports = 0; delivers = false }

-- done, with so many reports (R219)
abbrev pub done : ℕ → Answer
done reports = record { reply = 0; fsn = 0; octets = 0; reports = reports; delivers = false }

-- the number of each refusal in the table
abbrev pub number : Refusal → ℕ
number OutOfRange = 1
number NotConfigured = 2
number Malformed = 3
number Foreign = 4
number Unfit = 5
number NotNext = 6
number NoUserPlace = 7
number NoManagementPlace = 8
number Inaccessible = 9
number NoNumber = 10
number NamesNothing = 11

-- the reply of what was decided: 0, done, where nothing refuses it (R41)
abbrev pub number_of : {A : Type 0} → Result A Refusal → ℕ
number_of (Ok _) = 0
number_of (Err refusal) = number refusal

-- what a reply of the table decides; a number over 11 stands in none of its rows
unfoldable pub refusal_of : ℕ → Result Unit Refusal
refusal_of reply =
    cond (eqb reply 0) (Ok tt)
    (cond (eqb reply 1) (Err OutOfRange)
    (cond (eqb reply 2) (Err NotConfigured)
    (cond (eqb reply 3) (Err Malformed)
    (cond (eqb reply 4) (Err Foreign)
    (cond (eqb reply 5) (Err Unfit)
    (cond (eqb reply 6) (Err NotNext)
    (cond (eqb reply 7) (Err NoUserPlace)
    (cond (eqb reply 8) (Err NoManagementPlace)
    (cond (eqb reply 9) (Err Inaccessible)
    (cond (eqb reply 10) (Err NoNumber)
    (Err NamesNothing)))))))))))

-- a value that goes with what was decided, and stands only where nothing is refused
abbrev pub holding : {A : Type 0} → A → Result Unit Refusal → Result A Refusal
holding value (Ok _) = Ok value
holding value (Err refusal) = Err refusal

-- what a reply of the table decides of such a value
abbrev pub decided : {A : Type 0} → ℕ → A → Result A Refusal
decided reply value = holding value (refusal_of reply)
