-- The words of a plan that fits say it again. Assumes nothing.
use mathlib.Core.Path.{◌≡◌, refl, sym, ap, ◌∙◌}
use mathlib.Core.Bool.{Bool, true, false}
use mathlib.Core.List.{List}
use Prim.Native.Nat.{ℕ, suc, ◌+◌, ◌*◌, ◌%◌, ◌<◌}
use native.Mathlib.Nat.{zero-add, mod-eq_of_lt}
use native.Mathlib.Omega.{arith}
use lib.Dec.{ltb}
use lib.ListN.{length, get_or, replicate, length-replicate, length-map, get_or-map}
use lib.Seq.{sets, length-sets, ext_get_or}
use borrow.Author.Tests.{le-leb, lt-leb}
use Rattle.plan.specs.declared.data.Plan.{Plan}
use Rattle.plan.specs.Data.{absent_set, absent_link, absent_route, absent_destination, set_at, link_at, destination_at}
use Rattle.plan_words.specs.Words.{table, octet_in, route_of, route_in, set_in, link_in, destination_in, plan_at}
use Rattle.plan_words.proofs.Said.{table_at, table_length}
use Rattle.plan_store.specs.Layout.{flag_word, route_word, node_words, set_words, link_words, code_words, route_words, placed, words_of}
use Rattle.plan_store.specs.Fits.{Fits}
use Rattle.area_rows.proofs.Laws.{set_there}
use Rattle.plan_store.proofs.Placed.{length_placed, placed_after, placed_there}

-- a flag and a route are read back from their words
flagged : (on : Bool) → ltb 0 (flag_word on) ≡ on
flagged true = refl
flagged false = refl

routed : (given : Bool) (set : ℕ) → set < 256 → route_of (route_word (record { given = given; set = set })) ≡ record { given = given; set = set }
routed true set h =
    let low : (256 + set) % 256 ≡ set = omega arith in
    simp (le-leb 256 (256 + set) (omega arith), low)
routed false set h = simp (lt-leb 256 set h, mod-eq_of_lt h)

-- a table that has at each place what a list has there is that list
table_same : {A : Type 0} (none : A) (f : ℕ → A) (n : ℕ) (l : List A) → length l ≡ n → ((i : ℕ) → i < n → f i ≡ get_or l i none) → table f 0 n ≡ l
table_same none f n l size same =
    let long = table_length f 0 n in
    ext_get_or none (table f 0 n) l (long ∙ sym size)
    (λ i h. let k : i < n = omega arith in table_at f none n i k ∙ same i k)

module _ (plan : Plan) (fits : Fits plan) (area : List ℕ) (size : length area ≡ 1024) where
  -- the words of the node, and with the tables one by one
  abbrev node : List ℕ
  node = sets area 0 (node_words plan)

  abbrev with_sets : List ℕ
  with_sets = placed set_words 16 16 plan.sets node

  abbrev with_links : List ℕ
  with_links = placed link_words 4 144 plan.links with_sets

  abbrev with_codes : List ℕ
  with_codes = placed code_words 1 272 plan.destinations with_links

  abbrev whole : List ℕ
  whole = placed route_words 4 336 plan.destinations with_codes

  -- the words stay 1,024
  long_node : length node ≡ 1024
  long_node = length-sets area 0 (node_words plan) ∙ size

  long_sets : length with_sets ≡ 1024
  long_sets = length_placed set_words 16 16 plan.sets node ∙ long_node

  long_links : length with_links ≡ 1024
  long_links = length_placed link_words 4 144 plan.links with_sets ∙ long_sets

  long_codes : length with_codes ≡ 1024
  long_codes = length_placed code_words 1 272 plan.destinations with_links ∙ long_links

  -- each table keeps what stands before it
  codes_kept : (at : ℕ) → at < 336 → get_or whole at 0 ≡ get_or with_codes at 0
  codes_kept at h = placed_after route_words 4 336 plan.destinations with_codes at h

  links_kept : (at : ℕ) → at < 272 → get_or whole at 0 ≡ get_or with_links at 0
  links_kept at h = codes_kept at (omega arith) ∙ placed_after code_words 1 272 plan.destinations with_links at h

  sets_kept : (at : ℕ) → at < 144 → get_or whole at 0 ≡ get_or with_sets at 0
  sets_kept at h = links_kept at (omega arith) ∙ placed_after link_words 4 144 plan.links with_sets at h

  node_kept : (at : ℕ) → at < 16 → get_or whole at 0 ≡ get_or node at 0
  node_kept at h = sets_kept at (omega arith) ∙ placed_after set_words 16 16 plan.sets node at h

  -- each row is read back
  set_again : (i : ℕ) → i < 8 → set_in whole i ≡ set_at plan i
  set_again i h =
      let known = set_at plan i in
      let fit = fits.each_set i h in
      let word : (k place : ℕ) → place ≡ 16 + 16 * i + k → k < 12 → get_or whole place 0 ≡ get_or (set_words known) k 0 =
      λ k place e l.
      sets_kept place (omega arith)
      ∙ placed_there set_words 16 absent_set 16 plan.sets node i k place e (omega (arith, fits.eight_sets)) (omega arith) (omega (arith, fit.eight)) (omega (arith, long_node))
      in
      let links : table (λ k. octet_in whole (20 + 16 * i + k)) 0 8 ≡ known.links =
      table_same 0 (λ k. octet_in whole (20 + 16 * i + k)) 8 known.links fit.eight
      (λ k l. ap (λ (n : ℕ). n % 256) (word (suc (suc (suc (suc k)))) (20 + 16 * i + k) (omega arith) (omega arith)) ∙ mod-eq_of_lt (fit.octets k))
      in
      simp
      (word 0 (16 + 16 * i) (omega arith) (omega arith), word 1 (17 + 16 * i) (omega arith) (omega arith), word 2 (18 + 16 * i) (omega arith) (omega arith), links, flagged known.given, mod-eq_of_lt fit.octet)

  link_again : (i : ℕ) → i < 32 → link_in whole i ≡ link_at plan i
  link_again i h =
      let known = link_at plan i in
      let fit = fits.each_link i h in
      let word : (k place : ℕ) → place ≡ 144 + 4 * i + k → k < 3 → get_or whole place 0 ≡ get_or (link_words known) k 0 =
      λ k place e l.
      links_kept place (omega arith)
      ∙ placed_there link_words 4 absent_link 144 plan.links with_sets i k place e (omega (arith, fits.all_links)) (omega arith) l (omega (arith, long_sets))
      in
      simp
      (word 0 (144 + 4 * i) (omega arith) (omega arith), word 1 (145 + 4 * i) (omega arith) (omega arith), word 2 (146 + 4 * i) (omega arith) (omega arith), flagged known.given, mod-eq_of_lt fit.set_octet, mod-eq_of_lt fit.slc_octet)

  destination_again : (i : ℕ) → i < 64 → destination_in whole i ≡ destination_at plan i
  destination_again i h =
      let known = destination_at plan i in
      let fit = fits.each_destination i h in
      let within : i < length plan.destinations = omega (arith, fits.all_destinations) in
      let code : get_or whole (272 + i) 0 ≡ known.code =
      codes_kept (272 + i) (omega arith)
      ∙ placed_there code_words 1 absent_destination 272 plan.destinations with_links i 0 (272 + i) (omega arith) within (omega arith) (omega arith) (omega (arith, long_links))
      in
      let routes : table (λ rank. route_in whole (336 + 4 * i + rank)) 0 4 ≡ known.routes =
      table_same absent_route (λ rank. route_in whole (336 + 4 * i + rank)) 4 known.routes fit.four
      (λ rank l.
      ap route_of
      (placed_there route_words 4 absent_destination 336 plan.destinations with_codes i rank (336 + 4 * i + rank) refl within l (omega (arith, fit.four, length-map known.routes route_word)) (omega (arith, long_codes))
      ∙ get_or-map route_word known.routes rank absent_route)
      ∙ routed _ _ (fit.octets rank l))
      in
      simp (code, routes)

  all_again : plan_at whole ≡ plan
  unfolding plan_at
  all_again =
      let word : (k : ℕ) → k < 4 → get_or whole k 0 ≡ get_or (node_words plan) k 0 =
      λ k l. node_kept k (omega arith) ∙ (rw zero-add at (set_there (node_words plan) area 0 k l (omega arith)))
      in
      simp (
        word 0 (omega arith),
        word 1 (omega arith),
        word 2 (omega arith),
        word 3 (omega arith),
        flagged plan.given,
        mod-eq_of_lt fits.ni_octet,
        mod-eq_of_lt fits.count_octet,
        table_same absent_set (set_in whole) 8 plan.sets fits.eight_sets set_again,
        table_same absent_link (link_in whole) 32 plan.links fits.all_links link_again,
        table_same absent_destination (destination_in whole) 64 plan.destinations fits.all_destinations destination_again,
      )

-- a plan that fits is what its words say
pub said_again : (plan : Plan) → Fits plan → plan_at (words_of plan) ≡ plan
unfolding words_of
said_again plan fits = all_again plan fits (replicate 1024 0) (length-replicate {A = ℕ} 1024 0)
