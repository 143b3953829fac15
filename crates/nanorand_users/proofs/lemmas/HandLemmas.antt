-- Hands of cards, one after another.
use Rattle.std.proofs.Common.{◌≡◌, ℕ, zero, suc, ◌+◌, ◌*◌, ◌<◌, ◌≤◌, List, ◌++◌, length, get_or, drop, sym, ◌∙◌, ap, arith, append_assoc}
use Rattle.std.proofs.lemmas.List.{take-append-drop, drop-drop, get_or-take, get_or-drop}
use Rattle.nanorand_users.specs.Deals.{HoldsNoneTwice, HandsAreApart, hand_of, hands}
use Rattle.nanorand_users.proofs.lemmas.PlaceLemmas.{place_below, same_place}

pub hands-rest : (size players : ℕ) (deck : List ℕ) → hands size players deck ++ drop (players * size) deck ≡ deck
hands-rest size zero deck = ap (λ (n : ℕ). drop n deck) (let e : 0 * size ≡ 0 = omega arith in e)
hands-rest size (suc players) deck =
    let next : drop (suc players * size) deck ≡ drop size (drop (players * size) deck) =
    ap (λ (n : ℕ). drop n deck) (let e : suc players * size ≡ players * size + size = omega arith in e)
    ∙ sym (drop-drop size (players * size) deck) in
    rw (next, append_assoc, take-append-drop) (hands-rest size players deck)

-- A card of a hand is a card of the deck.
hand-card : (size player place : ℕ) (deck : List ℕ) → place < size
    → get_or (hand_of size player deck) place 0 ≡ get_or deck (player * size + place) 0
hand-card size player place deck within =
    get_or-take size (drop (player * size) deck) place 0 within ∙ get_or-drop (player * size) deck place 0

pub hands-apart : (size players : ℕ) (deck : List ℕ) → players * size ≤ length deck → HoldsNoneTwice deck → HandsAreApart size players deck
hands-apart size players deck room none_twice i j k l one other first second same =
    same_place size i j k l first second
    (none_twice (i * size + j) (k * size + l)
    (place_below players size (length deck) i j room one first)
    (place_below players size (length deck) k l room other second)
    (sym (hand-card size i j deck first) ∙ same ∙ hand-card size k l deck second))
