-- `of` takes the box apart, and the handle owns what it owned at its pointer. Assumes `Logic`.
use Rattle.std.proofs.Common.{◌≡◌, List, [], ◌∷◌, ◌++◌, refl, ap, ◌∙◌}
use Rattle.std.specs.Prelude.{Some}
use base.Fraction.{full_share}
use base.Logic.{SProp, emp, never, fst∗, id⊢}
use base.Fml.{ftrue, fsep, flft}
use contract.BorrowLft.{◌⊑◌}
use contract.Monad.{fact, fact_i}
use contract.Running.{tables}
use denote.Builtin.{RawPtr}
use denote.Param.{param}
use denote.Param.NoDrop.{glues}
use denote.RattleType.{RattleType, owns}
use denote.RawPtr.{Ptr, block_ptr, null_ptr, ptr_val, in_a_block}
use denote.Signature.{types_at}
use denote.Steps.{nothing, only}
use denote.Struct.Tuple.{Tuple}
use denote.Triple.Call.{calls_at}
use denote.Triple.Entry.{alive}
use denote.Triple.Spec.{triple_of}
use denote.Triple.Walked.{Stays, stay_dropped, walk_of}
use mir.Syntax.{Fn}
use mir.Val.{Val, vstruct, of_list}
use prog.Wp.{WpFn}
use types.ByLocal.{alloc_all, pass_all, free_all, look_at, get, get_in, sets, lands_as}
use types.Kit.{‵, raw, ◌⊛◌, some, later, prop, ◌$◌, ◌∵◌, !, qed, by, move, keep, drop, use0, use1, join, split, split3, pick, regoal}
use types.Kit.{fsplit, fjoin, fpick, feq_l, await}
use types.Logic.{sem}
use types.Part.{whole, sub, agg}
use types.Run.{stop, fld, of_opd, no_more, and_then, returns, enter}
use Rattle.core.proofs.alloc.Calls.{Goes-blank, handle_tells}
use Rattle.core.proofs.atomic.Steps.{fm}
use Rattle.std_alloc.specs.contracts.boxed.Box.into_raw_with_allocator as into_raw
use Rattle.std_alloc.proofs.BoxSteps.Form.{word, box_typed}
use Rattle.std_alloc.proofs.BoxSteps.Steps.{box_out, box_in}
use Rattle.std_alloc.proofs.boxed.Box.into_raw_with_allocator.Met.{met}
use Rattle.std.proofs.raw_atomic.Walks.{proved_at, leaves}
use Rattle.std.specs.contracts.impls.GlobalAllocator.TheImpl as global
use Rattle.std.proofs.impls.GlobalAllocator.TheImpl.Met.{passed}
use Rattle.nl_c.proofs.KeptValues.{slot_at, kept_val, kept_own, kept_made}
use Rattle.nl_c.proofs.BoxedLog.{Log, Heap, log_laws, heap_laws, log_lasts, heap_lasts, no_drop, log_drop, boxed, held_at, freed_at}
use Rattle.nl_c.proofs.LogDrop.{log_dropped}
use Rattle.nl_c.specs.contracts.handle.Kept as kept_handle
use Rattle.nl_c.specs.contracts.handle.Kept.of.{ended, clauses}
use Rattle.nl_c.specs.contracts.handle.Kept.of.Key.{name as #self}
use Rattle.nl_c.proofs.handle.Kept.of.Statement.{statement}
use Rattle.nl_c.proofs.handle.Kept.of.Code as compiled

pub of_spec : {M : Type 1} → statement M
unfolding Rattle.nl_c.proofs.Destruct++none.drop.Code.code
of_spec {M} 𝓤 𝓛 𝓜 𝓡 wired =
    let H = 𝓛.H in
    let c = clauses 𝓛 𝓜.mem 𝓡.returns in
    let fn : Fn = compiled.function in
    let C = (tables 𝓤 H 𝓜 𝓡 𝓡.env).C in
    let Λ = (tables 𝓤 H 𝓜 𝓡 𝓡.env).Λ in
    let stays : Stays ended.signature.params ended.kept = (stay_dropped (slot_at 0 ended.signature.params) ended.kept.0, tt) in
    let callee = triple_of 𝓛 (into_raw.signature Log Heap global.ghosts global.dict no_drop log_drop)
    (into_raw.spec Log Heap global.ghosts global.dict no_drop log_drop 𝓛 𝓜.mem 𝓡.returns) in
    let known = met 𝓤 𝓛 𝓜 𝓡 (compiled.calls-std_alloc::boxed::Box::into_raw_with_allocator 𝓡.env wired) Log Heap log_laws heap_laws
    global.ghosts global.dict no_drop log_drop
    (passed 𝓡.env (compiled.calls-std_heap::GlobalAllocator::allocate 𝓡.env wired)
    (compiled.calls-std_heap::GlobalAllocator::deallocate 𝓡.env wired) (compiled.calls-std_heap::GlobalAllocator::grow 𝓡.env wired)
    (compiled.calls-std_heap::GlobalAllocator::shrink 𝓡.env wired) M 𝓤 𝓛 𝓜 𝓡)
    (glues "nl_c::Destruct++none::drop" 𝓡.env (compiled.calls-nl_c::Destruct++none::drop 𝓡.env wired) Heap heap_laws M 𝓤 𝓛 𝓜 𝓡)
    (log_dropped 𝓤 𝓛 𝓜 𝓡 (compiled.calls-nl_c::nl_c++handle++Held+Destruct::drop 𝓡.env wired)) in
    let Pair : RattleType = Tuple (RawPtr ∷ param 1 Heap ∷ []) in
    proved_at 𝓛 ended stays c 𝓜 𝓡 (Goes-blank 𝓛 0 (slot_at 0 ended.signature.params) ended.kept.0 (λ κs x f. tt), tt) #self fn
    (compiled.unfolded 𝓤 H 𝓜 𝓡 wired) (λ z are.
    let Post : Val → SProp 𝓤 = (walk_of 𝓛 ended stays c).post z in
    let x = z.0.3.0 in
    let Same : Heap.Denot → Type 0 = λ a. a ≡ x.alloc in
    qed 𝓛 ((raw (alive 𝓛 ended.signature z.0.0 z.0.1) ⊛ ‵ (owns (types_at ended.signature.params z.0.0) z.0.3 z.0.4)) ∷ ‵ ftrue ∷ [])
    ∵ move ! (1 ∷ []) $ drop ! $ split ! $ move ! (1 ∷ []) $
    fsplit ! $ box_out boxed ! x z.0.4.0 (λ b o k made vs fits. box_in boxed ! x b o x.value made refl $
    let w : Val = word boxed k b o in
    let typed = box_typed boxed k b o fits in
    let at_take : callee.Ghost = ((([], ([], tt)), (full_share, (full_share, tt)), tt, (x, tt), (w ∷ [], tt)), tt) in
    -- [the box and nothing; the tokens]
    fjoin ! $
    nothing ! $ use0 𝓛 (‵ (flft [] full_share)) (𝓛.lfts.lft-nil full_share) $ join ! $
    use0 𝓛 (‵ (flft [] full_share)) (𝓛.lfts.lft-nil full_share) $ join ! $ join ! $
    nothing ! $ use0 𝓛 (raw (fact 𝓤 ([] ⊑ Heap.lives))) (fact_i 𝓤 ([] ⊑ Heap.lives) (emp 𝓤) heap_lasts) $ join ! $
    use0 𝓛 (raw (fact 𝓤 ([] ⊑ Log.lives))) (fact_i 𝓤 ([] ⊑ Log.lives) (emp 𝓤) log_lasts) $ join ! $
    move ! (1 ∷ 0 ∷ []) $ join ! $ use1 𝓛 (raw (callee.pre at_take)) (id⊢ 𝓤 _) $
    regoal ! (λ (us : List Val). prop (WpFn 𝓤 H C Λ fn us Post)) (λ i. vs i ++ []) refl $
    enter ! C Λ fn (w ∷ []) Post $
    alloc_all ! (λ l. pass_all ! refl (typed, tt) $
    sets ! (of_opd ! (get ! refl)) refl typed $
    calls_at ! (fm 𝓛 𝓜 𝓡) callee known at_take (and_then ! (get ! refl) (no_more !)) (λ u.
    use1 𝓛
    (later (some (λ (r : Ptr × Heap.Denot). ((‵ (flft [] full_share) ⊛ ‵ (flft [] full_share) ⊛ ‵ ftrue) ⊛ ‵ (Pair.own_val r (u ∷ []))) ⊛
    some (λ (_ : (Unit {0} × (Unit {0} × Unit {0})) × Unit {0}).
    ‵ (fsep (fsep ftrue (fsep ftrue ftrue)) ftrue) ⊛ (raw (fact 𝓤 (Same r.1)) ⊛ ‵ (held_at r.0 x.value)))))) (id⊢ 𝓤 _) $
    await ! tt $ pick ! (λ r. split ! $ move ! (1 ∷ []) $ pick ! (λ _. split3 ! $ drop ! $ drop ! $
    in_a_block ! r.0 (λ p. held_at p x.value) (fst∗ 𝓤 (never 𝓤) (sem 𝓛 (freed_at null_ptr))) (λ b' o' at.
    -- [the log's memory; the call's tokens and the pair; the tokens]
    move ! (1 ∷ []) $ split ! $ move ! (1 ∷ []) $ fpick ! (λ parts. fsplit ! $
    feq_l ! (λ of_parts. fsplit ! $ feq_l ! (λ first_part. fsplit ! $ handle_tells boxed.al ! r.1 parts.1.0 (λ k' second_part fits'.
    let p : Ptr = block_ptr b' o' in
    let y : (kept_handle.the_row).Denot = record { at = p; log = Some x.value } in
    let Said : Type 0 = y.log ≡ Some x.value in
    let given : u ∷ [] ≡ word boxed k' b' o' ∷ [] = of_parts
    ∙ (λ i. vstruct (of_list ((first_part ∙ ap (λ (q : Ptr). ptr_val q ∷ []) at) i ++ (second_part i ++ []))) ∷ []) in
    lands_as ! (ap only given) refl (box_typed boxed k' b' o' fits') $
    sets ! (of_opd ! (get_in ! (fld ! refl (stop !)) (sub ! 0 refl (whole !)))) refl (tt, tt) $
    sets ! (of_opd ! (get ! refl)) refl (tt, tt) $
    sets ! (agg ! (and_then ! (get ! refl) (no_more !))) refl (tt, (tt, tt)) $
    returns ! (look_at ! 0 refl) $ free_all ! refl $
    -- [the heap's handle; nothing; the call's tokens; the log's memory; the tokens]
    keep ! (3 ∷ 4 ∷ []) $ use0 𝓛 (‵ (kept_own p (kept_val p ∷ []))) (kept_made 𝓛 p) $ fjoin ! $
    use0 𝓛 (raw (fact 𝓤 Said)) (fact_i 𝓤 Said (emp 𝓤) refl) $ nothing ! $ nothing ! $ fjoin ! $ move ! (3 ∷ 0 ∷ 2 ∷ 1 ∷ []) $
    by ! (leaves 𝓛 ended stays c z (kept_val p) y (tt, tt) (tt, tt)))))))))))))
