-- Unbroken delivery: what holds for two requests holds for any number of requests, and for calls.
use Rattle.std.proofs.Common.{◌≡◌, ℕ, zero, suc, ◌+◌, ◌*◌, ◌/◌, List, [], ◌∷◌, ◌++◌, length, nat_eq, min, sum, refl, sym, ◌∙◌, ap, arith, inl, inr}
use Rattle.std.specs.Fn.{iterate}
use Rattle.std.specs.declared.ops.Bound.TheVariants.{Included, Excluded}
use Rattle.std.proofs.lemmas.Bool.{cases_Bool}
use Rattle.std.proofs.lemmas.List.Sums.{sum_by-cons}
use Rattle.std.proofs.Math.Nat.{zero-mul, suc-mul}
use Rattle.nanorand_core.specs.generators.Blocks.{Requests}
use Rattle.nanorand_replay.specs.replay.Asked.{words_drawn, asked_by_range, asked_by_bounds, asked_by_places, asked_by_call, asked}
use Rattle.nanorand_core.specs.values.Draws.{next_word, after_word, left_after, left_by}
use Rattle.nanorand_core.specs.values.Range.{unsigned_range, signed_range}
use Rattle.nanorand_replay.specs.replay.Replay.{TypedBounds, bounds_of, bounds_outcome, outcome, replayed}
use Rattle.nanorand_replay.specs.replay.Replay.TypedBounds.{signed, unsigned}
use Rattle.nanorand_core.specs.shuffles.Shuffles.{from_itself, partner_drawn, state_after_places, shuffle_choices}
use Rattle.nanorand_replay.specs.replay.Unbroken.{IsUnbroken, after_all, taken_all}
use Rattle.nanorand_replay.specs.declared.replay.Call.{Call}
use Rattle.nanorand_replay.specs.declared.replay.Call.TheVariants.{Gen, Range, Shuffle}

-- a draw from a range leaves the state after as many words as it draws
left-words : {G T : Type 0} (word : G → ℕ) (after : G → G) (bits : ℕ) (numbers : List T) (g : G)
    → left_by word after bits numbers g ≡ iterate after (words_drawn word after bits numbers g) g
unfolding left_by left_after words_drawn
left-words word after bits numbers g =
    elim (cases_Bool (nat_eq (length numbers) 0)) [
      | inl none ↦ rw none refl
      | inr some ↦ rw some refl
    ]

module _ {G : Type 0} (requests : Requests G)
    (nothing_left : (g : G) → requests.after g 0 ≡ g) (nothing_taken : (g : G) → requests.bytes g 0 ≡ [])
    (two_states : (g : G) (m n : ℕ) → requests.after (requests.after g m) n ≡ requests.after g (m + n))
    (two_takes : (g : G) (m n : ℕ) → requests.bytes g m ++ requests.bytes (requests.after g m) n ≡ requests.bytes g (m + n)) where
  all_states : (g : G) (sizes : List ℕ) → after_all requests g sizes ≡ requests.after g (sum sizes)
  all_states g [] = sym (nothing_left g)
  all_states g (n ∷ sizes) = all_states (requests.after g n) sizes ∙ two_states g n (sum sizes)
      ∙ ap (requests.after g) (sym (sum_by-cons (λ size. size) n sizes))

  all_takes : (g : G) (sizes : List ℕ) → taken_all requests g sizes ≡ requests.bytes g (sum sizes)
  all_takes g [] = sym (nothing_taken g)
  all_takes g (n ∷ sizes) = ap (λ rest. requests.bytes g n ++ rest) (all_takes (requests.after g n) sizes)
      ∙ two_takes g n (sum sizes) ∙ ap (requests.bytes g) (sym (sum_by-cons (λ size. size) n sizes))

  -- `count` requests of one size are the same as one request for the sum of their sizes
  repeated_state : (size count : ℕ) (g : G) → iterate (λ state. requests.after state size) count g ≡ requests.after g (count * size)
  repeated_state size zero g = rw zero-mul (sym (nothing_left g))
  repeated_state size (suc count) g = repeated_state size count (requests.after g size)
      ∙ two_states g size (count * size) ∙ ap (requests.after g) (omega (arith, suc-mul count size))

  range_state : {T : Type 0} (bits : ℕ) (numbers : List T) (g : G)
      → left_by (next_word requests bits) (after_word requests bits) bits numbers g ≡ requests.after g (asked_by_range requests bits numbers g)
  range_state bits numbers g =
      left-words (next_word requests bits) (after_word requests bits) bits numbers g
      ∙ repeated_state (bits / 8) (words_drawn (next_word requests bits) (after_word requests bits) bits numbers g) g

  bounds_state : (g : G) (bounds : TypedBounds)
      → (bounds_outcome requests g bounds).1 ≡ requests.after g (asked_by_bounds requests g bounds)
  bounds_state g (unsigned bits low high) = range_state bits (unsigned_range bits low high) g
  bounds_state g (signed bits low high) = range_state bits (signed_range bits low high) g

  partner_state : (first : ℕ → ℕ) (n i : ℕ) (g : G)
      → (partner_drawn requests first n i g).1 ≡ requests.after g (asked_by_range requests 64 (unsigned_range 64 (Included (first i)) (Excluded n)) g)
  unfolding partner_drawn
  partner_state first n i g = range_state 64 (unsigned_range 64 (Included (first i)) (Excluded n)) g

  places_state : (first : ℕ → ℕ) (n i count : ℕ) (g : G)
      → state_after_places requests first n i count g ≡ requests.after g (asked_by_places requests first n i count g)
  unfolding state_after_places asked_by_places
  places_state first n i zero g = sym (nothing_left g)
  places_state first n i (suc count) g =
      let next = (partner_drawn requests first n i g).1 in
      places_state first n (i + 1) count next
      ∙ ap (λ state. requests.after state (asked_by_places requests first n (i + 1) count next)) (partner_state first n i g)
      ∙ two_states g (asked_by_range requests 64 (unsigned_range 64 (Included (first i)) (Excluded n)) g) (asked_by_places requests first n (i + 1) count next)

  call_state : (g : G) (items : List ℕ) (call : Call) → (outcome requests g items call).state ≡ requests.after g (asked_by_call requests g items call)
  call_state g items (Gen kind) = refl
  call_state g items (Range span) = bounds_state g (bounds_of span)
  call_state g items Shuffle =
      places_state from_itself (length items) 0 (min (length items) (length (shuffle_choices requests from_itself (length items) g) + 1)) g

  call_states : (g : G) (items : List ℕ) (calls : List Call) → (replayed requests g items calls).state ≡ requests.after g (asked requests g items calls)
  call_states g items [] = sym (nothing_left g)
  call_states g items (call ∷ calls) =
      let first = outcome requests g items call in
      call_states first.state first.items calls
      ∙ ap (λ state. requests.after state (asked requests first.state first.items calls)) (call_state g items call)
      ∙ two_states g (asked_by_call requests g items call) (asked requests first.state first.items calls)

  pub unbroken : IsUnbroken requests
  unbroken = record { two_states = two_states; two_takes = two_takes; all_states = all_states; all_takes = all_takes; call_states = call_states }
