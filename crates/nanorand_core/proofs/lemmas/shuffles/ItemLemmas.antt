-- The items of a slice in memory, in two parts: the cells that hold their bits, and what the items
-- own. Reading or writing a cell does not change the other part.
use Rattle.std.proofs.Common.{◌≡◌, ℕ, zero, suc, ◌+◌, ◌*◌, ◌<◌, List, [], ◌∷◌, length, map, get_or, set}
use Rattle.std.proofs.Common.{ap, sym, refl, subst, ◌∙◌}
use Rattle.std.specs.List.{swap}
use Rattle.std.proofs.lemmas.List.{length-map, map-set, get_or-map, set-get_or}
use Rattle.std.proofs.lemmas.List.Edits.{swap_is}
use Rattle.std.proofs.mem.Param.{El, R, el_x, elτ, lawful, Good}
use native.Mathlib.Nat.{not-suc-le-zero, le_of_suc-le-suc}
use native.Mathlib.Omega.{arith}
use seplogic.Ra.Ura.{Ura}
use base.Fraction.{full_share}
use base.Logic.{SProp, ent, sep, ex, all, wand, guard, id⊢}
use base.Fml.{Fml, ftrue, fsep, fat}
use base.Stored.{coded_val}
use mir.Val.{Val}
use borrow.Table.OneValue.{part_out, part_in}
use types.Logic.{Logic, sem}
use types.Kit.{‵, ◌⊛◌, some, given, ◌$◌, ◌∵◌, !, qed, by, move, drop, show, use1, use2, split, pick, check, learn}
use types.Kit.{rewrite, fsplit, fjoin, frame, each, assume, done}
use types.Part.{Part}
use types.SemTy.{SemTy}
use types.Share.{Parts, parts}
use denote.Laws.{Is, shows}
use denote.Memory.{part_at, mem}
use denote.Index.{row, others, takes, puts, place, place_is}
use denote.Steps.{nothing, peeks}

-- an item, and its bits
module _ (E : El) where
  pub record Item : Type 0 where
    pub value : el_x E
    pub bits : Val
    pub good : Good E bits

  abbrev pub values : List Item → List (el_x E)
  values = map (λ (z : Item). z.value)

  abbrev pub bits_of : List Item → List Val
  bits_of = map (λ (z : Item). z.bits)

  abbrev size : ℕ
  size = (mem (R E)).size

  abbrev cell : SemTy
  cell = record { rep = Val; coded = coded_val; size = size; own_at = λ v b o. fat full_share (elτ E) b o v }

  abbrev shared : Parts cell
  shared = record { part = λ q v b o. fat q (elτ E) b o v }

  abbrev pub cells : List Val → ℕ → ℕ → Fml
  cells vs b o = parts cell shared full_share vs b o

  abbrev owned_by : Item → Fml
  owned_by z = E.row.own_val z.value (z.bits ∷ [])

  abbrev pub owned : List Item → Fml
  owned [] = ftrue
  owned (z ∷ zs) = fsep (owned_by z) (owned zs)

  module _ {M : Type 1} {𝓤 : Ura M} (𝓛 : Logic 𝓤) where
    abbrev ◌⊢◌ : SProp 𝓤 → SProp 𝓤 → Type 1
    P ⊢ Q = ent 𝓤 P Q

    abbrev ◌∗◌ : SProp 𝓤 → SProp 𝓤 → SProp 𝓤
    P ∗ Q = sep 𝓤 P Q

    abbrev ⟦◌⟧ : Fml → SProp 𝓤
    ⟦ P ⟧ = sem 𝓛 P

    infix 26 ◌⊢◌
    infixr 35 ◌∗◌
    -- an item takes the place of the one at j
    exchanged_one : (z d : Item) (zs : List Item) (j : ℕ) → j < length zs
        → ⟦ owned_by z ⟧ ∗ ⟦ owned zs ⟧ ⊢ ⟦ owned (get_or zs j d ∷ set zs j z) ⟧
    exchanged_one z d [] j jl = absurd (not-suc-le-zero jl)
    exchanged_one z d (y ∷ ys) zero jl =
        qed 𝓛 (‵ (owned_by z) ∷ ‵ (owned (y ∷ ys)) ∷ []) ∵ move ! (1 ∷ []) $ fsplit ! $ move ! (0 ∷ 2 ∷ 1 ∷ []) $ done !
    exchanged_one z d (y ∷ ys) (suc j) jl =
        qed 𝓛 (‵ (owned_by z) ∷ ‵ (owned (y ∷ ys)) ∷ []) ∵ move ! (1 ∷ []) $ fsplit ! $ move ! (2 ∷ 1 ∷ []) $
        use2 𝓛 (‵ (owned (get_or ys j d ∷ set ys j z))) (exchanged_one z d ys j (le_of_suc-le-suc jl)) $
        fsplit ! $ move ! (0 ∷ 2 ∷ 1 ∷ []) $ done !

    -- the items at i and j change places
    exchanged : (zs : List Item) (i j : ℕ) (d : Item) → i < length zs → j < length zs
        → ⟦ owned zs ⟧ ⊢ ⟦ owned (set (set zs i (get_or zs j d)) j (get_or zs i d)) ⟧
    exchanged [] i j d il jl = absurd (not-suc-le-zero il)
    exchanged (z ∷ zs) zero zero d il jl = id⊢ 𝓤 _
    exchanged (z ∷ zs) zero (suc j) d il jl = exchanged_one z d zs j (le_of_suc-le-suc jl)
    exchanged (z ∷ zs) (suc i) zero d il jl = exchanged_one z d zs i (le_of_suc-le-suc il)
    exchanged (z ∷ zs) (suc i) (suc j) d il jl =
        qed 𝓛 (‵ (owned (z ∷ zs)) ∷ []) ∵ fsplit ! $ frame ! $
        by ! (exchanged zs i j d (le_of_suc-le-suc il) (le_of_suc-le-suc jl))

    module _ (b : ℕ) where
      abbrev cell_of : ℕ → Val → Fml
      cell_of o v = fat full_share (elτ E) b o v

      abbrev Opened : List (el_x E) → ℕ → List Item → SProp 𝓤
      Opened xs o zs = guard 𝓤 (values zs ≡ xs) (⟦ cells (bits_of zs) b o ⟧ ∗ ⟦ owned zs ⟧)

      pub opened : (xs : List (el_x E)) (o : ℕ) → ⟦ row (R E) full_share xs b o ⟧ ⊢ ex 𝓤 (Opened xs o)
      opened [] o = qed 𝓛 (‵ ftrue ∷ []) ∵ show ! (Opened [] o) [] $ check ! refl $ nothing ! $ done !
      opened (x ∷ xs) o =
          qed 𝓛 (‵ (row (R E) full_share (x ∷ xs) b o) ∷ []) ∵ fsplit ! $
          use1 𝓛 (some (λ (v : Val). ‵ (cell_of o v) ⊛ ‵ (E.row.own_val x (v ∷ []))))
          (part_out 𝓛 (R E) refl full_share x b o) $ pick ! (λ v. split ! $ move ! (1 ∷ []) $
          peeks ! (R E) (Is (R E)) (shows 𝓛 (R E)) x (v ∷ []) (λ is. move ! (2 ∷ []) $
          use1 𝓛 (some (λ zs. given (values zs ≡ xs) (‵ (cells (bits_of zs) b (o + size)) ⊛ ‵ (owned zs))))
          (opened xs (o + size)) $ pick ! (λ zs. learn ! (λ e. split ! $
          move ! (3 ∷ 0 ∷ []) $ fjoin ! $ move ! (2 ∷ 1 ∷ []) $ fjoin ! $ move ! (1 ∷ []) $ show ! (Opened (x ∷ xs) o)
          (record { value = x; bits = v; good = ((lawful E 𝓛).typed x (v ∷ []) is).0 } ∷ zs) $
          check ! (ap (λ (ys : List (el_x E)). x ∷ ys) e) $ done !))))

      closed : (zs : List Item) (o : ℕ)
          → ⟦ cells (bits_of zs) b o ⟧ ∗ ⟦ owned zs ⟧ ⊢ ⟦ row (R E) full_share (values zs) b o ⟧
      closed [] o = qed 𝓛 (‵ ftrue ∷ ‵ ftrue ∷ []) ∵ drop ! $ done !
      closed (z ∷ zs) o =
          qed 𝓛 (‵ (cells (bits_of (z ∷ zs)) b o) ∷ ‵ (owned (z ∷ zs)) ∷ []) ∵
          fsplit ! $ move ! (2 ∷ []) $ fsplit ! $ move ! (2 ∷ 0 ∷ []) $
          use2 𝓛 (‵ (part_at (R E) full_share z.value b o)) (part_in 𝓛 (R E) refl full_share z.value b o z.bits) $
          move ! (2 ∷ 1 ∷ []) $ use2 𝓛 (‵ (row (R E) full_share (values zs) b (o + size))) (closed zs (o + size)) $
          move ! (1 ∷ []) $ done !

      module _ (o : ℕ) where
        abbrev Cell : (K : Type 0) → List Val → ℕ → Val → Type 2
        Cell K vs i v =
            Part K 𝓛 (‵ (cells vs b o)) full_share (elτ E) b (i * size + o) v (λ u. ‵ (cells (set vs i u) b o))

        -- one cell, to be read or overwritten
        pub cell_at : {K : Type 0} (vs : List Val) (i : ℕ) (d : Val) → i < length vs → Cell K vs i (get_or vs i d)
        cell_at vs i d il = record {
          out = subst (λ k. ⟦ cells vs b o ⟧ ⊢ ⟦ cell_of k (get_or vs i d) ⟧ ∗ all 𝓤 (Way k)) (place_is size o i) (
              qed 𝓛 (‵ (cells vs b o) ∷ []) ∵
              use1 𝓛 (‵ (cell_of (place size o i) (get_or vs i d)) ⊛ ‵ (others shared full_share vs i b o))
              (takes shared full_share 𝓛 vs i d b o il) $ split ! $ frame ! $ each ! (Way (place size o i)) (λ u.
              assume ! (‵ (cell_of (place size o i) u)) $ by ! (puts shared full_share 𝓛 vs i u b o il)));
          same = ap (λ (us : List Val). ‵ (cells us b o)) (set-get_or vs i d);
        }
          where
            Way : ℕ → Val → SProp 𝓤
            Way k u = wand 𝓤 ⟦ cell_of k u ⟧ ⟦ cells (set vs i u) b o ⟧

        -- the cell of an item
        pub item_at : {K : Type 0} (zs : List Item) (i : ℕ) (d : Item) → i < length zs
            → Cell K (bits_of zs) i (get_or zs i d).bits
        item_at {K} zs i d il =
            let same : length (bits_of zs) ≡ length zs = length-map zs (λ (z : Item). z.bits) in
            subst (Cell K (bits_of zs) i) (get_or-map (λ (z : Item). z.bits) zs i d d.bits il)
            (cell_at (bits_of zs) i d.bits (omega arith))

        -- if the bits of two items have changed places, the items have changed places
        pub swapped : (xs : List (el_x E)) (zs : List Item) (i j : ℕ) (d : Item)
            → values zs ≡ xs → i < length zs → j < length zs
            → ⟦ cells (set (set (bits_of zs) i (get_or zs j d).bits) j (get_or zs i d).bits) b o ⟧ ∗ ⟦ owned zs ⟧
            ⊢ ⟦ row (R E) full_share (swap xs i j) b o ⟧
        swapped xs zs i j d e il jl =
            let x : Item = get_or zs i d in let y : Item = get_or zs j d in
            let ys : List Item = set (set zs i y) j x in
            let value = λ (z : Item). z.value in let same : length (values zs) ≡ length zs = length-map zs value in
            let at_i : get_or (values zs) i d.value ≡ x.value = get_or-map value zs i d d.value il in
            let at_j : get_or (values zs) j d.value ≡ y.value = get_or-map value zs j d d.value jl in
            let bits : bits_of ys ≡ set (set (bits_of zs) i y.bits) j x.bits = simp map-set in
            let moved : values ys ≡ set (set (values zs) i y.value) j x.value = simp map-set in
            let is_swap : values ys ≡ swap (values zs) i j =
            moved ∙ (λ k. set (set (values zs) i (sym at_j k)) j (sym at_i k))
            ∙ swap_is (values zs) i j d.value (omega arith) (omega arith) in
            qed 𝓛 (‵ (cells (set (set (bits_of zs) i y.bits) j x.bits) b o) ∷ ‵ (owned zs) ∷ []) ∵
            rewrite ! 0 (λ (us : List Val). ‵ (cells us b o)) (sym bits) refl $ move ! (1 ∷ []) $
            use1 𝓛 (‵ (owned ys)) (exchanged zs i j d il jl) $ move ! (1 ∷ []) $
            use2 𝓛 (‵ (row (R E) full_share (values ys) b o)) (closed ys o) $
            rewrite ! 0 (λ (us : List (el_x E)). ‵ (row (R E) full_share us b o))
            (is_swap ∙ ap (λ (us : List (el_x E)). swap us i j) e) refl $ done !
