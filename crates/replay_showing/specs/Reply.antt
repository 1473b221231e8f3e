-- What a run of a record writes (docs/FORMATS.md): the line of a call's reply. Every line begins with the number of the record's line that it
-- belongs to.
use Rattle.std.specs.Prelude.{ℕ, Bool, cond, List, [], ◌∷◌, eqb}
use Rattle.std.proofs.Math.Seq.{slice}
use Rattle.text_decimals.specs.Decimal.{decimal_of}
use Rattle.text_hex.specs.Hex.{hex_of}
use Rattle.wire.specs.Header.{after_label}
use Rattle.replies.specs.declared.Answer.{Answer}
use Rattle.text_pages.specs.Page.{parted}
use Rattle.replay_showing.specs.declared.shows.Shows.{Shows}
use Rattle.replay_showing.specs.declared.shows.Shows.TheVariants.{Sent, Delivered, Listed, Nothing}

-- `reply` between its tabs
abbrev pub reply_word : List ℕ
reply_word = 9 ∷ 114 ∷ 101 ∷ 112 ∷ 108 ∷ 121 ∷ 9 ∷ []

-- `N reply R` (docs/FORMATS.md): the call's reply (R225)
abbrev pub replied : ℕ → ℕ → List (List ℕ)
replied number reply = decimal_of number ∷ reply_word ∷ decimal_of reply ∷ []

-- of `send` (docs/FORMATS.md): the number and the octets that leave
abbrev pub sent : ℕ → ℕ → List ℕ → List (List ℕ)
sent reply fsn octets = cond (eqb reply 0) (parted ∷ decimal_of fsn ∷ parted ∷ hex_of octets ∷ []) []

-- of `received`, where the message is delivered (docs/FORMATS.md): its octets after the label, possibly none
abbrev pub delivered : Bool → List ℕ → List (List ℕ)
delivered delivers octets = cond delivers (parted ∷ hex_of octets ∷ []) []

-- what stands behind the reply in its line
abbrev pub behind : Shows → Answer → List ℕ → List ℕ → List (List ℕ)
behind Sent answer message out = sent answer.reply answer.fsn (slice 0 answer.octets out)
behind Delivered answer message out = delivered answer.delivers (after_label message)
behind Listed answer message out = []
behind Nothing answer message out = []
