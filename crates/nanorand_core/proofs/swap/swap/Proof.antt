-- `swap` meets its contract for items of every type: its code is followed step by step. The cells
-- of the items are read and written at both indices, which may be equal. After that the items have
-- changed places.
use Rattle.std.proofs.Common.{◌≡◌, ℕ, ◌*◌, ◌^◌, ◌<◌, ◌≤◌, List, [], ◌∷◌, length, get_or, set}
use Rattle.std.proofs.Common.{sym, refl, ap, ◌∙◌, subst, arith, w64}
use Rattle.std.specs.List.{swap}
use Rattle.std.proofs.lemmas.List.{length-map, length-set}
use Rattle.std.proofs.lemmas.List.Edits.{length-swap}
use Rattle.std.proofs.mem.Param.{El, R, args, el_x}
use Rattle.std.proofs.raw_atomic.Walks.{proved}
use Rattle.std.proofs.SliceLists.{hd}
use Rattle.nanorand_core.proofs.lemmas.shuffles.ItemLemmas.{Item, values, bits_of, cells, owned, opened}
use Rattle.nanorand_core.proofs.lemmas.shuffles.ItemLemmas.{cell_at, item_at, swapped}
use native.Mathlib.Nat.{mul-le-mul_right}
use base.Fraction.{full_share}
use base.Fml.{ftrue, flft}
use base.Logic.{SProp}
use contract.BorrowLft.{◌⊑◌}
use contract.Monad.{fact}
use contract.Running.{tables}
use mir.Syntax.{Fn, named}
use mir.Val.{Val, Fits, vunit, vint}
use mir.MapTy.{inst_fn}
use denote.Builtin.{usize}
use denote.Exit.{yes}
use denote.Index.{row, opens_slice, closes_slice}
use denote.Memory.{mem}
use denote.Plain.{uint_vals, uint_Tells}
use denote.RattleType.{owns}
use denote.Shadow.{pure_i}
use denote.Signature.{plain, types_at}
use denote.Slice.{Room, slice_val, mut_slice_vals, mut_slice_Tells, mut_slice_at}
use denote.Steps.{nothing, heard}
use denote.Triple.Walked.{Stays, stay_dropped, stay_slice, walk_of, says, ends_at, Goes-dropped, Goes-slice}
use types.Kit.{‵, raw, ◌⊛◌, some, given, at_ret, ◌$◌, ◌∵◌, !, qed, move, keep, use1, use2, drop, split, join, pick}
use types.Kit.{learn, fsplit, fjoin, feq_i, suffices, frame, done}
use types.Part.{whole, sub, look_in, store_in}
use types.Run.{stop, fld, load, addr, hop, from, size_lit, unit_lit, of_opd, bin, assigns, assigns_last, first, blocks}
use types.Run.{exec, returns, enter}
use types.ByLocal.{alloc_all, pass_all, free_all, look_at, look_in_at, get, through, sets, env}
use Rattle.nanorand_core.specs.contracts.swap.swap as agreed
use Rattle.nanorand_core.specs.contracts.swap.swap.Key.{name as #swap}
use Rattle.nanorand_core.proofs.swap.swap.Statement.{statement}
use Rattle.nanorand_core.proofs.swap.swap.Code as code

pub swap_spec : {M : Type 1} → statement M
swap_spec 𝓤 𝓛 𝓜 𝓡 wired X L =
    let E : El = record { row = X; laws = L } in
    let fn : Fn = inst_fn (args E) code.function in
    let 𝓣 = tables 𝓤 𝓛.H 𝓜 𝓡 𝓡.env in
    let ended = agreed.ended X in let clauses = agreed.clauses X 𝓛 𝓜.mem 𝓡.returns in
    -- the slice is what is left of the parameters
    let index = stay_dropped (plain (λ _. usize)) yes in
    let stayed : Stays ended.signature.params ended.kept =
    (stay_slice (0 ∷ []) tt (plain (λ _. R E)), (index, (index, tt))) in
    let dropped = Goes-dropped 𝓛 2 (plain (λ _. usize)) yes (λ κs x f. refl) in
    proved 𝓛 ended stayed clauses 𝓜 𝓡 (Goes-slice 𝓛 2 0 tt (plain (λ _. R E)), (dropped, (dropped, tt)))
    (#swap (args E)) fn (code.unfolded 𝓤 𝓛.H 𝓜 𝓡 wired (X, tt))
    (λ κs. (mut_slice_vals, (uint_vals w64, (uint_vals w64, tt))))
    (λ κs. (mut_slice_Tells (named 0) κs.0 (R E), (uint_Tells w64, (uint_Tells w64, tt)))) (λ κs qs bounds a g are.
    -- The slice lies at the offset o of the block b, and holds xs. The indices are i and j.
    let xs : List (el_x E) = a.0.now in let b = a.0.ref_ptr.0 in let o = a.0.ref_ptr.1 in
    let i = a.1.0 in let j = a.1.1.0 in let n : ℕ = length xs in let size : ℕ = (mem (R E)).size in
    let bound : (walk_of 𝓛 ended stayed clauses).Ghost =
    ((κs, qs, bounds, a, (mut_slice_vals a.0, (vint w64 i ∷ [], (vint w64 j ∷ [], tt)))), g) in
    let Post : Val → SProp 𝓤 = (walk_of 𝓛 ended stayed clauses).post bound in
    let Inside : Type 0 = (i < n) × (j < n) in let room : Room (R E) n = are.0.0.1 in
    qed 𝓛 (((‵ (flft κs.0 qs.0) ⊛ ‵ (flft κs.1.0 qs.1.0) ⊛ ‵ ftrue)
    ⊛ ‵ (owns (types_at ended.signature.params κs) a bound.0.4))
    ∷ (raw (fact 𝓤 (κs.1.0 ⊑ X.lives)) ⊛ raw (fact 𝓤 Inside)) ∷ []) ∵
    move ! (1 ∷ []) $ split ! $ drop ! $ heard ! Inside (λ inside.
    let fits : (k : ℕ) → k ≤ n → k * size < 2 ^ 64 =
    λ k few. let below : k * size ≤ n * size = mul-le-mul_right size few in omega arith in
    let fi : Fits w64 (i * size) = record { fits = fits i (omega arith) } in
    let fj : Fits w64 (j * size) = record { fits = fits j (omega arith) } in
    let one = fits 1 (omega arith) in let fs : Fits w64 size = record { fits = omega arith } in
    let wi : Fits w64 i = record { fits = omega arith } in let wj : Fits w64 j = record { fits = omega arith } in
    split ! $ move ! (1 ∷ []) $ fsplit ! $ fsplit ! $ drop ! $ fsplit ! $ move ! (3 ∷ []) $
    split ! $ keep ! (2 ∷ 3 ∷ 0 ∷ 1 ∷ []) $
    enter ! 𝓣.C 𝓣.Λ fn (slice_val (b, o) n ∷ vint w64 i ∷ vint w64 j ∷ []) Post $ alloc_all ! (λ l.
    pass_all ! refl ((tt, (tt, (record { fits = room.0 }, tt))), ((tt, wi), ((tt, wj), tt))) $
    -- let start = items.as_mut_ptr();
    sets ! (addr ! (from ! (fld ! refl (hop ! (look_in_at ! 1 (sub ! 0 refl (whole !))) (stop !))))) refl (tt, tt) $
    opens_slice ! tt (R E) xs b o $
    use1 𝓛 (some (λ (zs : List (Item E)). given (values E zs ≡ xs) (‵ (cells E (bits_of E zs) b o) ⊛ ‵ (owned E zs))))
    (opened E 𝓛 b xs o) $ pick ! (λ zs. learn ! (λ e. split ! $
    -- [the cells of the items; what they own; the open borrow; ..]
    let all : length zs ≡ n = sym (length-map zs (λ (z : Item E). z.value)) ∙ ap length e in
    let iz : i < length zs = omega arith in let jz : j < length zs = omega arith in
    let d : Item E = hd zs (omega arith) in let x : Item E = get_or zs i d in let y : Item E = get_or zs j d in
    let vs : List Val = set (bits_of E zs) i y.bits in
    let jv : j < length vs =
    omega (arith, length-set (bits_of E zs) i y.bits, length-map zs (λ (z : Item E). z.bits)) in
    -- let first = start.add(a); let second = start.add(b);
    first ! $ blocks ! $ sets ! (bin ! (get ! refl) (size_lit ! fs) fi) refl (tt, fi) $
    sets ! (bin ! (get ! refl) (get ! refl) tt) refl (tt, tt) $
    sets ! (bin ! (get ! refl) (size_lit ! fs) fj) refl (tt, fj) $
    sets ! (bin ! (get ! refl) (get ! refl) tt) refl (tt, tt) $
    -- let item = first.read();
    sets ! (of_opd ! (load ! (through ! refl (stop !)) (look_in ! 0 (item_at E 𝓛 b o zs i d iz)))) refl x.good $
    -- first.write(second.read());
    sets ! (of_opd ! (load ! (through ! refl (stop !)) (look_in ! 0 (item_at E 𝓛 b o zs j d jz)))) refl y.good $
    assigns ! (of_opd ! (get ! refl)) (through ! refl (stop !)) (store_in ! 0 (item_at E 𝓛 b o zs i d iz) y.good) $
    -- second.write(item);
    sets ! (of_opd ! (get ! refl)) refl x.good $
    assigns_last ! (of_opd ! (get ! refl)) (through ! refl (stop !))
    (store_in ! 0 (cell_at E 𝓛 b o vs j d.bits jv) x.good) $
    exec ! 𝓣.C 𝓣.Λ (env fn.locals l) code.Mir.t-3 (at_ret _ Post) $ sets ! (of_opd ! (unit_lit !)) refl (tt, tt) $
    let ys : List (el_x E) = swap xs i j in let same : length ys ≡ n = length-swap xs i j in
    use2 𝓛 (‵ (row (R E) full_share ys b o)) (swapped E 𝓛 b o xs zs i j d e iz jz) $
    closes_slice ! tt (R E) xs ys same b o $
    returns ! (look_at ! 0 refl) $ free_all ! refl $
    -- [what the slice holds; its borrow; the tokens]
    suffices ! _ (ends_at 𝓛 ended stayed clauses bound vunit tt (ys, (tt, (tt, tt))) (same, (tt, (tt, tt)))) $
    says ! refl $
    move ! (2 ∷ 3 ∷ []) $ join ! $ frame ! $ fjoin ! $
    pure_i ! (mut_slice_at (R E) (record a.0 { now = ys }) (mut_slice_vals a.0)) (tt, (tt, tt))
    (ap (λ (k : ℕ). slice_val (b, o) k ∷ []) (sym same), subst (Room (R E)) (sym same) room) $ fjoin ! $
    nothing ! $ nothing ! $ fjoin ! $ nothing ! $ fjoin ! $ move ! (1 ∷ 0 ∷ []) $ fjoin ! $
    feq_i ! (List Val) (vunit ∷ []) _ refl $ move ! (1 ∷ 0 ∷ []) $ done !)))))
