-- The text of a range is split at its first dots.
use Rattle.std.proofs.Common.{◌≡◌, ◌≢◌, ℕ, ◌+◌, ◌<◌, ◌≤◌, Option, Some, None, List, ◌++◌, length, drop, take, get_or}
use Rattle.std.proofs.Common.{codes, arith, sym, refl, ◌∙◌, ap, subst, append_assoc, length-append, Bor, get_or-drop}
use Rattle.std.proofs.Common.{take_at, drop_at, add-zero}
use Rattle.std.proofs.Math.ListN.{get_or-append}
use Rattle.std.proofs.lemmas.Str.Pattern.{split_text_parts}
use Rattle.std.specs.Option.{MatchOption, IsSomeAnd}
use Rattle.std.specs.Str.Pattern.{FindsText, LacksTextAt, HasTextAt}
use Rattle.std.specs.declared.ops.Bound.{Bound}
use Rattle.std.specs.declared.ops.Bound.TheVariants.{Included, Excluded, Unbounded}
use Rattle.draw_core.specs.Numbers.{IsPlain}
use Rattle.draw_core.specs.Requests.{IsLow, IsHigh, IsRange}

-- The result of `split_once("..")`.
abbrev pub IsSplit : List ℕ → Option (Bor (List ℕ) × Bor (List ℕ)) → Type 0
IsSplit text r = MatchOption r (FindsText (codes "..") text None)
    (λ x. (i : ℕ) × (j : ℕ) × FindsText (codes "..") text (Some (i, j)) × (x.0.now ≡ take i text)
    × (x.1.now ≡ drop j text) × (i ≤ j) × (length x.0.now ≡ i) × (length x.1.now + j ≡ length text))

module _ (text before after : List ℕ) (whole : text ≡ before ++ codes ".." ++ after) where
  joined : text ≡ before ++ (codes ".." ++ after)
  joined = whole ∙ append_assoc before (codes "..") after

  dots_behind : drop (length before) text ≡ codes ".." ++ after
  dots_behind = ap (drop (length before)) joined ∙ drop_at before (codes ".." ++ after) (length before) refl

  within : length before < length text
  within = omega (arith, ap length joined, length-append before (codes ".." ++ after))

  -- The bytes before the dots are those of `before`.
  byte_before : (i : ℕ) → i < length before → get_or text i 0 ≡ get_or before i 0
  byte_before i h = ap (λ l. get_or l i 0) joined ∙ get_or-append before (codes ".." ++ after) 0 i h

  -- If `before` has no dot, the first two dots are right after it.
  place_is : (no_dot : (index : ℕ) → index < length before → get_or before index 0 ≢ 46) (i j : ℕ)
      → ((k : ℕ) → k < i → LacksTextAt (codes "..") text k) → HasTextAt (codes "..") text i j → i ≡ length before
  place_is no_dot i j lacks has =
      let dot_at : get_or text (i + 0) 0 ≡ 46 = sym (get_or-drop i text 0 0) ∙ ap (λ l. get_or l 0 0) has.split in
      let not_below : i < length before → ⊥ = λ h. no_dot i h (sym (byte_before i h) ∙ ap (λ k. get_or text k 0) (sym (add-zero i)) ∙ dot_at) in
      let not_above : length before < i → ⊥ = λ h. lacks (length before) h after dots_behind in
      omega (arith, not_below, not_above)

-- If `before` has no dot, the text is split into `before` and `after`.
pub split_at_dots : (text before after : List ℕ) (r : Option (Bor (List ℕ) × Bor (List ℕ))) → IsSplit text r → text
    ≡ before ++ codes ".." ++ after → ((index : ℕ) → index < length before → get_or before index 0 ≢ 46)
    → IsSomeAnd r (λ x. (x.0.now ≡ before) × (x.1.now ≡ after))
split_at_dots text before after None split whole no_dot =
    absurd (split (length before) (let room = within text before after whole in omega arith) after (dots_behind text before after whole))
split_at_dots text before after (Some x) (i, j, (lacks, has), front, back, order, front_len, back_len) whole no_dot =
    let index = place_is text before after whole no_dot i j lacks has in
    let rest : codes ".." ++ drop j text ≡ codes ".." ++ after = sym has.split ∙ ap (λ k. drop k text) index ∙ dots_behind text before after whole in (
      front ∙ ap (λ k. take k text) index ∙ ap (take (length before)) (joined text before after whole)
          ∙ take_at before (codes ".." ++ after) (length before) refl,
      back ∙ cc,
    )

-- The text of a low bound has no dot.
low_no_dot : {N : Type 0} (is_text : List ℕ → N → Type 0) → ((text : List ℕ) (n : N) → is_text text n → IsPlain text)
    → (before : List ℕ) (low : Bound N) → IsLow is_text before low → (index : ℕ) → index < length before
    → get_or before index 0 ≢ 46
low_no_dot is_text plain before (Included n) said = (plain before n said).no_dot
low_no_dot is_text plain before (Excluded n) said = absurd said
low_no_dot is_text plain before Unbounded said = λ index within. absurd (omega (arith, ap length said))

-- The bounds of a range are those that its two parts give.
pub parts_of_range : {N : Type 0} (is_text : List ℕ → N → Type 0)
    → ((text : List ℕ) (n : N) → is_text text n → IsPlain text)
    → (text : List ℕ) (r : Option (Bor (List ℕ) × Bor (List ℕ))) → IsSplit text r → (low high : Bound N)
    → IsRange is_text text low high → IsSomeAnd r (λ x. IsLow is_text x.0.now low × IsHigh is_text x.1.now high)
parts_of_range is_text plain text None split low high said =
    split_at_dots text said.before said.after None split said.whole (low_no_dot is_text plain said.before low said.is_low)
parts_of_range is_text plain text (Some x) split low high said =
    let cut = split_at_dots text said.before said.after (Some x) split said.whole (low_no_dot is_text plain said.before low said.is_low) in
    (subst (λ l. IsLow is_text l low) (sym cut.0) said.is_low, subst (λ l. IsHigh is_text l high) (sym cut.1) said.is_high)

-- Two parts that give bounds form the text of a range.
pub range_from_parts : {N : Type 0} (is_text : List ℕ → N → Type 0)
    → (text : List ℕ) (before after : Bor (List ℕ)) (low high : Bound N) → IsSplit text (Some (before, after))
    → IsLow is_text before.now low → IsHigh is_text after.now high → IsRange is_text text low high
range_from_parts is_text text before after low high split is_low is_high = record {
  before = before.now;
  after = after.now;
  whole = split_text_parts (codes "..") text (Some (before, after)) split ∙ sym (append_assoc before.now (codes "..") after.now);
  is_low = is_low;
  is_high = is_high;
}
