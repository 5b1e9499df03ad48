-- `==` on ends, and an end that none of the ends that were found is.
use Rattle.std.proofs.Common.{◌≡◌, ◌≢◌, ℕ, ◌+◌, ◌<◌, ◌≤◌, List, length, true, false, refl, sym, ◌∙◌, ap, subst, arith}
use Rattle.std.specs.Prelude.{slice_index_or}
use Rattle.std.specs.List.{AllWithin, Contains}
use Rattle.std.proofs.lemmas.Bool.{false≢true}
use Rattle.std.proofs.lemmas.Bool.Decides.{Decides-int_eq}
use Rattle.std.proofs.lemmas.List.{get_or_default}
use Rattle.std.proofs.lemmas.List.Elements.{All-contains, All-from_all_within, All-map, AllWithin-more, AllWithin-upto}
use Rattle.sts_model.specs.declared.event.End.{End}
use Rattle.sts_model.specs.declared.event.End.TheVariants.{Success, Failed}
use Rattle.sts_model.specs.declared.event.Fault.{Fault}
use Rattle.sts_model.specs.contracts.event.EndPartialEq.TheImpl as end_eq
use Rattle.sts_model.specs.contracts.event.FaultPartialEq.TheImpl as fault_eq
use Rattle.sts_plain.specs.declared.misstep.PlainState.{PlainState}
use Rattle.sts_plain.specs.declared.misstep.PlainState.TheVariants as plain
use Rattle.sts_plain.specs.contracts.misstep.PlainStatePartialEq.TheImpl as state_eq
use Rattle.ends_plain.specs.declared.config.Found.{Found}
use Rattle.ends_plain.specs.Listed.{ends_of}

end_itself : (a : End) → end_eq.eq-value.it a a ≡ true
end_itself (Success v) = (Decides-int_eq v v).1 refl
end_itself (Failed v) = (Decides-int_eq v v).1 refl

fault_itself : (a : Fault) → fault_eq.eq-value.it a a ≡ true
fault_itself a = grind arith

state_itself : (a : PlainState) → state_eq.eq-value.it a a ≡ true
state_itself plain.Running = refl
state_itself (plain.Ended e) = end_itself e
state_itself (plain.Fault kind t f pc) = let h = fault_itself kind in grind (arith, h)

-- one more that has another end
pub still_missing : (found : List Found) (i : ℕ) (f : Found) (end : PlainState) → i < length found → f ≡ slice_index_or found i f → state_eq.eq-value.it f.end end ≡ false → AllWithin (λ (x : Found). x.end ≢ end) found 0 i → AllWithin (λ (x : Found). x.end ≢ end) found 0 (i + 1)
still_missing found i f end less is other before = AllWithin-more (λ (x : Found). x.end ≢ end) found 0 i before here
  where
    here : (d : Found) → (slice_index_or found i d).end ≢ end
    here d same =
        let at : slice_index_or found i d ≡ f = get_or_default found i d f less ∙ sym is in
        let own : f.end ≡ end = sym (ap (λ (x : Found). x.end) at) ∙ same in
        false≢true (sym other ∙ subst (λ e. state_eq.eq-value.it f.end e ≡ true) own (state_itself f.end))

pub none_found : (found : List Found) (n : ℕ) (end : PlainState) → length found ≤ n → AllWithin (λ (x : Found). x.end ≢ end) found 0 n → Contains (ends_of found) end → ⊥
none_found found n end over none there =
    let each = All-from_all_within (λ (x : Found). x.end ≢ end) found (AllWithin-upto (λ (x : Found). x.end ≢ end) found 0 n (length found) over none) in
    All-contains (λ (e : PlainState). e ≢ end) (ends_of found) end (All-map (λ (e : PlainState). e ≢ end) (λ (x : Found). x.end) found each) there refl
