-- `into_box` makes the box again, of the pointer and what the handle owns there. Assumes `Logic`.
use Rattle.std.proofs.Common.{◌≡◌, List, [], ◌∷◌, ◌++◌, refl, sym, ap, ◌∙◌, subst}
use Rattle.std.specs.Prelude.{Option, Some, IsSome}
use base.Fraction.{full_share}
use base.Logic.{SProp, emp, never, fst∗, id⊢}
use base.Fml.{ftrue, flft}
use contract.BorrowLft.{◌⊑◌}
use contract.Monad.{fact, fact_i}
use contract.Running.{tables}
use denote.Param.{layout}
use denote.Param.NoDrop.{glues}
use denote.RattleType.{owns}
use denote.RawPtr.{Ptr, block_ptr, null_ptr, in_a_block}
use denote.Signature.{types_at}
use denote.Steps.{nothing, heard, only}
use denote.Triple.Call.{calls_at_last}
use denote.Triple.Clauses.{Lasts, lasts}
use denote.Triple.Entry.{alive}
use denote.Triple.Spec.{triple_of}
use denote.Triple.Walked.{Stays, stay_dropped, walk_of, Goes-dropped}
use mir.Syntax.{Fn}
use mir.Val.{Val, vptr}
use prog.Wp.{WpFn}
use types.ByLocal.{alloc_all, pass_all, free_all, look_at, get, get_in, sets, lands_last, is, env}
use types.Kit.{‵, raw, ◌⊛◌, some, later, prop, at_ret, ◌$◌, ◌∵◌, !, qed, by, move, keep, drop, use0, use1, join, split, split3, pick}
use types.Kit.{rewrite, regoal, fsplit, fjoin, fjoin3, feq_i, await}
use types.Logic.{sem}
use types.Part.{whole, sub}
use types.Run.{stop, fld, of_opd, no_more, and_then, first, blocks, exec, returns, enter}
use Rattle.core.proofs.alloc.Calls.{Goes-blank}
use Rattle.core.proofs.alloc.Shapes.{after}
use Rattle.core.proofs.atomic.Steps.{fm}
use Rattle.core.proofs.cell.Inside.{Good, one}
use Rattle.std_alloc.specs.contracts.boxed.Box.from_raw as from_raw
use Rattle.std_alloc.proofs.BoxSteps.Form.{word, box_ty, box_typed}
use Rattle.std_alloc.proofs.BoxSteps.Steps.{box_out, box_in}
use Rattle.std_alloc.proofs.boxed.Box.from_raw.Met.{met}
use Rattle.std.proofs.raw_atomic.Walks.{proved_at, leaves}
use Rattle.std.specs.contracts.impls.GlobalAllocator.TheImpl as global
use Rattle.std.proofs.impls.GlobalAllocator.TheImpl.Met.{passed}
use Rattle.nl_c.specs.Kept.{owned_if}
use Rattle.nl_c.proofs.KeptValues.{slot_at, some_of, kept_val, kept_told}
use Rattle.nl_c.proofs.BoxedLog.{Log, Heap, log_laws, heap_laws, log_lasts, heap_lasts, no_drop, boxed, TheBox, held_at, freed_at}
use Rattle.nl_c.specs.declared.handle.Held.{Held}
use Rattle.nl_c.specs.contracts.handle.Kept.into_box.{ended, clauses}
use Rattle.nl_c.specs.contracts.handle.Kept.into_box.Key.{name as #self}
use Rattle.nl_c.proofs.handle.Kept.into_box.Statement.{statement}
use Rattle.nl_c.proofs.handle.Kept.into_box.Code as compiled

pub into_box_spec : {M : Type 1} → statement M
unfolding Rattle.nl_c.proofs.Destruct++none.drop.Code.code
into_box_spec {M} 𝓤 𝓛 𝓜 𝓡 wired =
    let H = 𝓛.H in
    let c = clauses 𝓛 𝓜.mem 𝓡.returns in
    let fn : Fn = compiled.function in
    let C = (tables 𝓤 H 𝓜 𝓡 𝓡.env).C in
    let Λ = (tables 𝓤 H 𝓜 𝓡 𝓡.env).Λ in
    let stays : Stays ended.signature.params ended.kept =
    (stay_dropped (slot_at 0 ended.signature.params) ended.kept.0, (stay_dropped (slot_at 1 ended.signature.params) ended.kept.1.0, tt)) in
    let callee = triple_of 𝓛 (from_raw.signature Log Heap global.ghosts global.dict no_drop)
    (from_raw.spec Log Heap global.ghosts global.dict no_drop 𝓛 𝓜.mem 𝓡.returns) in
    let known = met 𝓤 𝓛 𝓜 𝓡
    (compiled.calls-std_alloc::boxed::Box::from_raw 𝓡.env wired) Log Heap log_laws heap_laws global.ghosts global.dict no_drop
    (passed 𝓡.env (compiled.calls-std_heap::GlobalAllocator::allocate 𝓡.env wired)
    (compiled.calls-std_heap::GlobalAllocator::deallocate 𝓡.env wired) (compiled.calls-std_heap::GlobalAllocator::grow 𝓡.env wired)
    (compiled.calls-std_heap::GlobalAllocator::shrink 𝓡.env wired) M 𝓤 𝓛 𝓜 𝓡)
    (glues "nl_c::Destruct++none::drop" 𝓡.env (compiled.calls-nl_c::Destruct++none::drop 𝓡.env wired) Heap heap_laws M 𝓤 𝓛 𝓜 𝓡) in
    proved_at 𝓛 ended stays c 𝓜 𝓡 (
      Goes-blank 𝓛 0 (slot_at 0 ended.signature.params) ended.kept.0 (λ κs x f. tt),
      (Goes-dropped 𝓛 0 (slot_at 1 ended.signature.params) ended.kept.1.0 (λ κs x f. refl), tt),
    ) #self fn (compiled.unfolded 𝓤 H 𝓜 𝓡 wired) (λ z are.
    let Post : Val → SProp 𝓤 = (walk_of 𝓛 ended stays c).post z in
    let x = z.0.3.0 in
    let a = z.0.3.1.0 in
    let h = one (layout Heap) z.0.4.1.0 ((heap_laws.lawful 𝓛).typed a z.0.4.1.0 are.1.0) in
    let Asked : Type 0 = IsSome x.log in
    qed 𝓛
    ((raw (alive 𝓛 ended.signature z.0.0 z.0.1) ⊛ ‵ (owns (types_at ended.signature.params z.0.0) z.0.3 z.0.4)) ∷ raw (fact 𝓤 Asked) ∷ [])
    ∵ move ! (1 ∷ []) $ heard ! Asked (λ asked. split ! $ move ! (1 ∷ []) $
    let found = some_of x.log asked in
    let v : Held = found.0 in
    fsplit ! $ fsplit ! $ drop ! $ rewrite ! 0 (λ (k : Option Held). ‵ (owned_if x.at k)) found.1 refl $
    in_a_block ! x.at (λ p. held_at p v) (fst∗ 𝓤 (never 𝓤) (sem 𝓛 (freed_at null_ptr))) (λ b o at.
    let at_free : callee.Ghost =
    ((([], ([], tt)), (full_share, (full_share, tt)), tt, (a, (block_ptr b o, tt)), (h.0 ∷ [], (vptr b o ∷ [], tt))), v) in
    -- [the log's memory; the handle of the heap and nothing; the tokens]
    move ! (1 ∷ []) $ fsplit ! $ move ! (1 ∷ []) $ drop ! $ rewrite ! 0 (λ (us : List Val). ‵ (Heap.own_val a us)) h.1 refl $
    move ! (1 ∷ []) $
    use0 𝓛 (raw (fact 𝓤 ([] ⊑ Heap.lives))) (fact_i 𝓤 ([] ⊑ Heap.lives) (emp 𝓤) heap_lasts) $ join ! $
    use0 𝓛 (raw (fact 𝓤 ([] ⊑ Log.lives))) (fact_i 𝓤 ([] ⊑ Log.lives) (emp 𝓤) log_lasts) $ join ! $
    -- [what the call asks; the handle; the tokens]
    nothing ! $ feq_i ! (List Val) (vptr b o ∷ []) (vptr b o ∷ []) refl $ move ! (3 ∷ 0 ∷ 1 ∷ []) $ fjoin3 ! $
    nothing ! $ use0 𝓛 (‵ (flft [] full_share)) (𝓛.lfts.lft-nil full_share) $ join ! $
    use0 𝓛 (‵ (flft [] full_share)) (𝓛.lfts.lft-nil full_share) $ join ! $
    join ! $ join ! $ use1 𝓛 (raw (callee.pre at_free)) (id⊢ 𝓤 _) $
    let told : z.0.4.0 ≡ kept_val (block_ptr b o) ∷ [] = kept_told x.at z.0.4.0 are.0.0 ∙ ap (λ (p : Ptr). kept_val p ∷ []) at in
    regoal ! (λ (us : List Val). prop (WpFn 𝓤 H C Λ fn us Post)) (λ i. told i ++ (h.1 i ++ [])) refl $
    enter ! C Λ fn (kept_val (block_ptr b o) ∷ h.0 ∷ []) Post $
    alloc_all ! (λ l. pass_all ! refl ((tt, (tt, tt)), (h.2, tt)) $
    first ! $ blocks ! $
    sets ! (of_opd ! (get_in ! (fld ! refl (stop !)) (sub ! 0 refl (whole !)))) refl (tt, tt) $
    calls_at_last ! (fm 𝓛 𝓜 𝓡) callee known at_free (and_then ! (get ! refl) (and_then ! (get ! refl) (no_more !))) (λ u.
    use1 𝓛
    (later (some (λ (r : TheBox.Denot). ((‵ (flft [] full_share) ⊛ ‵ (flft [] full_share) ⊛ ‵ ftrue) ⊛ ‵ (TheBox.own_val r (u ∷ []))) ⊛
    some (λ (ws : Lasts (from_raw.ended Log Heap global.ghosts global.dict no_drop) ([], ([], tt)) (a, (block_ptr b o, tt))).
    ‵ (lasts (from_raw.ended Log Heap global.ghosts global.dict no_drop) ([], ([], tt)) (a, (block_ptr b o, tt)) ws) ⊛
    (raw (fact 𝓤 (r.value ≡ v)) ⊛ raw (fact 𝓤 (r.alloc ≡ a))))))) (id⊢ 𝓤 _) $
    await ! tt $ pick !
    (λ r. split ! $ move ! (1 ∷ []) $ pick ! (λ _. split3 ! $ drop ! $ heard ! (r.value ≡ v) (λ same. drop ! $ split ! $ move ! (1 ∷ []) $
    -- [the box; the call's tokens; the tokens]
    box_out boxed ! r (u ∷ []) (λ b' o' k made us fits. box_in boxed ! r b' o' r.value made refl $
    let w : Val = word boxed k b' o' in
    let good : Good (box_ty boxed) w = box_typed boxed k b' o' fits in
    let Said : Type 0 = x.log ≡ Some r.value in
    lands_last ! refl (subst (Good (box_ty boxed)) (sym (ap only us)) good) $
    exec ! C Λ (env fn.locals l) (after 1 fn.body) (at_ret (env fn.locals l) Post) $
    sets ! (is ! (of_opd ! (get ! refl)) (ap only us)) refl good $
    returns ! (look_at ! 0 refl) $ free_all ! refl $
    use0 𝓛 (raw (fact 𝓤 Said)) (fact_i 𝓤 Said (emp 𝓤) (found.1 ∙ ap Some (sym same))) $ nothing ! $ nothing ! $ fjoin ! $ nothing ! $
    fjoin ! $ keep ! (4 ∷ 0 ∷ 2 ∷ 1 ∷ []) $
    by ! (leaves 𝓛 ended stays c z w r (tt, (tt, tt)) (tt, (tt, tt))))))))))))
