-- The records of links: what is stored of a record, all of it or a number in its word, is loaded, each number by the rest that its word
-- keeps; every other link's is as it was, and the area keeps its length.
-- Assumes nothing.
use mathlib.Core.Path.{◌≡◌, refl, ap, ◌∙◌}
use mathlib.Core.Bool.{Bool, true, false, cond}
use mathlib.Core.List.{List, [], ◌∷◌}
use Prim.Native.Nat.{ℕ, ◌%◌, ◌≤◌, ◌<◌}
use native.Mathlib.Nat.{mod-mod}
use native.Mathlib.Omega.{arith}
use lib.Dec.{eqb, ltb}
use lib.ListN.{length, get_or}
use borrow.Author.Tests.{le-ltb}
use Rattle.area_links.specs.declared.LinkRecord.{LinkRecord}
use Rattle.area_flags.specs.Flags.{word}
use Rattle.area_numbers.specs.LinkWords.{with_acknowledged, with_received, with_sent}
use Rattle.area_links.specs.LinkRecords.{record_of, record_at, with_record}
use Rattle.area_rows.specs.Rows.{word_at, with_word}
use Rattle.area_rows.proofs.Laws.{row_same, row_other, row_length, word_same, word_other, word_length}

-- what is left of a record in its words
abbrev pub kept : LinkRecord → LinkRecord
kept known =
    record {
      state = known.state % 4;
      acknowledged = known.acknowledged % 128;
      received = known.received % 128;
      sent = known.sent % 128;
      timer = known.timer % 4;
      t3 = known.t3;
      code = known.code % 64;
    }

-- the record with the numbers given, all else as it was
abbrev pub with_numbers : LinkRecord → ℕ → ℕ → ℕ → LinkRecord
with_numbers known acknowledged received sent =
    record {
      state = known.state;
      acknowledged = acknowledged;
      received = received;
      sent = sent;
      timer = known.timer;
      t3 = known.t3;
      code = known.code;
    }

-- another record in a link's place
pub record Rewritten (links : List ℕ) (link : ℕ) (new : LinkRecord) (after : List ℕ) : Type 0 where
  -- it is the record loaded
  pub there : length links ≡ 256 → link < 32 → record_at after link ≡ kept new
  -- every other link's is as it was
  pub others : (other : ℕ) → (other ≡ link → ⊥) → record_at after other ≡ record_at links other
  -- the area keeps its length
  pub long : length after ≡ length links
  -- and a link that there is not changes nothing
  pub past : 32 ≤ link → after ≡ links

-- the same words say the same record
said_same : (words words' : ℕ → ℕ) → ((place : ℕ) → place < 7 → words place ≡ words' place) → record_of words ≡ record_of words'
said_same words words' same =
    simp (
      same 0 (omega arith),
      same 1 (omega arith),
      same 2 (omega arith),
      same 3 (omega arith),
      same 4 (omega arith),
      same 5 (omega arith),
      same 6 (omega arith),
    )

-- a flag's word says the flag
word_says : (on : Bool) → ltb 0 (word on) ≡ on
word_says true = refl
word_says false = refl

module _ (links : List ℕ) (link : ℕ) where
  abbrev known : LinkRecord
  known = record_at links link

  -- the whole record
  pub record_rewritten : (new : LinkRecord) → Rewritten links link new (with_record links link new)
  record_rewritten new =
      let words : List ℕ =
      new.state ∷ new.acknowledged ∷ new.received ∷ new.sent ∷ new.timer ∷ word new.t3 ∷ new.code ∷ []
      in
      let short : length words ≤ 8 = omega arith in
      let after = with_record links link new in
      record {
        there =
            λ size h.
            said_same (word_at 32 8 after link) (λ place. get_or words place 0)
            (λ place low. row_same 32 8 links link words short h size place (omega arith))
            ∙ simp word_says;
        others =
            λ other apart.
            said_same (word_at 32 8 after other) (word_at 32 8 links other)
            (λ place low. row_other 32 8 links link words short other apart place (omega arith));
        long = row_length 32 8 links link words short;
        past = λ none. simp (le-ltb link 32 none);
      }

  -- one word of it
  word_rewritten : (at value : ℕ) → at < 8 → (new : LinkRecord)
      → record_of (λ place. cond (eqb place at) value (word_at 32 8 links link place)) ≡ kept new
      → Rewritten links link new (with_word 32 8 links link at value)
  word_rewritten at value inside new is =
      let after = with_word 32 8 links link at value in
      record {
        there =
            λ size h.
            said_same (word_at 32 8 after link) (λ place. cond (eqb place at) value (word_at 32 8 links link place))
            (λ place low. word_same 32 8 links link at inside value h size place (omega arith))
            ∙ is;
        others =
            λ other apart.
            said_same (word_at 32 8 after other) (word_at 32 8 links other)
            (λ place low. word_other 32 8 links link at inside value other apart place (omega arith));
        long = word_length 32 8 links link at inside value;
        past = λ none. simp (le-ltb link 32 none);
      }

  -- the last received number
  pub received_rewritten : (received : ℕ)
      → Rewritten links link (with_numbers known known.acknowledged received known.sent) (with_received links link received)
  received_rewritten received = word_rewritten 2 received (omega arith) _ (simp mod-mod)

  -- how many are sent
  pub sent_rewritten : (sent : ℕ)
      → Rewritten links link (with_numbers known known.acknowledged known.received sent) (with_sent links link sent)
  sent_rewritten sent = word_rewritten 3 sent (omega arith) _ (simp mod-mod)

-- the last acknowledged number, behind how many are sent
module _ (links : List ℕ) (link acknowledged sent : ℕ) where
  abbrev between : List ℕ
  between = with_sent links link sent

  last_rewritten :
      let last = record_at between link in
      Rewritten between link (with_numbers last acknowledged last.received last.sent) (with_acknowledged between link acknowledged)
  last_rewritten = word_rewritten between link 1 acknowledged (omega arith) _ (simp mod-mod)

  pub acknowledged_rewritten :
      let known = record_at links link in
      Rewritten links link (with_numbers known acknowledged known.received sent) (with_acknowledged between link acknowledged)
  acknowledged_rewritten =
      let one = sent_rewritten links link sent in
      let two = last_rewritten in
      record {
        there =
            λ size h.
            two.there (one.long ∙ size) h
            ∙ ap (λ (last : LinkRecord). kept (with_numbers last acknowledged last.received last.sent)) (one.there size h)
            ∙ simp mod-mod;
        others = λ other apart. two.others other apart ∙ one.others other apart;
        long = two.long ∙ one.long;
        past = λ none. two.past none ∙ one.past none;
      }
