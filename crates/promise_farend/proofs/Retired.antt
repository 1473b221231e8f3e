-- Messages that are retired are the first of their queue: the others of it stay, in order, and every other link's queue is as it was.
-- Assumes nothing.
use mathlib.Core.Path.{◌≡◌, refl, sym, ap, ◌∙◌}
use mathlib.Core.List.{List, [], ◌∷◌, map}
use Prim.Native.Nat.{ℕ, zero, suc, ◌<◌}
use lib.ListN.{drop}
use lib.Seq.{drop-nil}
use Rattle.route_round.proofs.Lists.{map_drop}
use Rattle.queue_store.specs.Sound.{Sound}
use Rattle.queue_heads.specs.Head.{Queues, freed, repeat}
use Rattle.queue_retiring.specs.Leave.{retired}
use Rattle.promise_ledger.specs.Held.{arrival_of, numbers}
use Rattle.promise_leaving.specs.Going.{slots_of}
use Rattle.promise_leaving.proofs.Queues.{freed_none, freed_from, freed_other, freed_sound}

module _ (rows octets : List ℕ) (link : ℕ) (within : link < 33) where
  abbrev SoundIn : Queues → Type 0
  SoundIn queues = Sound queues.spans queues.rings rows octets

  -- what so many leave of the slots of each queue
  pub record Left (many : ℕ) (before after : Queues) : Type 0 where
    pub own : slots_of after link ≡ drop many (slots_of before link)
    pub others : (other : ℕ) → other < 33 → (other ≡ link → ⊥) → slots_of after other ≡ slots_of before other

  left : (many : ℕ) (queues : Queues) → SoundIn queues → (slots : List ℕ) → slots_of queues link ≡ slots
      → Left many queues (retired link many queues)
  unfolding retired repeat
  left zero queues sound slots e = record { own = refl; others = λ other h apart. refl }
  left (suc more) queues sound [] e =
      let none = freed_none queues link e in
      let rest = left more queues sound [] e in
      let same : retired link more (freed queues link) ≡ retired link more queues = ap (retired link more) none in
      record {
        own =
            ap (λ (q : Queues). slots_of q link) same
            ∙ rest.own
            ∙ ap (drop more) e
            ∙ drop-nil more
            ∙ sym (ap (drop (suc more)) e ∙ drop-nil (suc more));
        others = λ other h apart. ap (λ (q : Queues). slots_of q other) same ∙ rest.others other h apart;
      }
  left (suc more) queues sound (slot ∷ later) e =
      let gone = freed_from queues rows octets sound link slot later e within in
      let rest = left more (freed queues link) (freed_sound queues rows octets sound link slot later e within) later gone in
      record {
        own = rest.own ∙ ap (drop more) gone ∙ sym (ap (drop (suc more)) e);
        others = λ other h apart. rest.others other h apart ∙ freed_other queues rows octets sound link slot later e within other h apart;
      }

  -- by their numbers
  pub own_left : (many : ℕ) (queues : Queues) → SoundIn queues → numbers rows (retired link many queues) link ≡ drop many (numbers rows queues link)
  unfolding numbers
  own_left many queues sound =
      ap (map (arrival_of rows)) (left many queues sound (slots_of queues link) refl).own ∙ map_drop (arrival_of rows) many (slots_of queues link)

  pub others_left : (many : ℕ) (queues : Queues) → SoundIn queues → (other : ℕ) → other < 33 → (other ≡ link → ⊥)
      → numbers rows (retired link many queues) other ≡ numbers rows queues other
  unfolding numbers
  others_left many queues sound other h apart =
      ap (map (arrival_of rows)) ((left many queues sound (slots_of queues link) refl).others other h apart)
