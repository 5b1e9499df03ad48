use Rattle.std.proofs.Common.{◌≡◌, ℕ, ◌+◌, ◌<◌, List, [], ◌∷◌, ◌++◌, length, take, get_or, ap, sym, refl, ◌∙◌, arith}
use Rattle.std.specs.Prelude.{filter_map}
use Rattle.std.specs.Option.{option_to_list}
use Rattle.std.proofs.lemmas.List.{take_more}
use Rattle.std.proofs.lemmas.List.Elements.{filter_map-append}
use Rattle.sts_model.specs.declared.record.Bound.{Bound}
use Rattle.sts_model.specs.declared.record.Entry.{Entry}
use Rattle.sts_model.specs.declared.record.Entry.TheVariants as entry
use Rattle.sts_model.specs.Environment.{bound_of}
use Rattle.ends_table.proofs.bindings.own_bindings.Goals as goal

one : (x : Entry) → filter_map bound_of (x ∷ []) ≡ option_to_list (bound_of x)
one (entry.Scope s) = refl
one (entry.Binding k v) = refl

more : (es : List Entry) (i : ℕ) (d x : Entry) (found : List Bound) → i < length es → found ≡ filter_map bound_of (take i es) → x ≡ get_or es i d → found ++ option_to_list (bound_of x) ≡ filter_map bound_of (take (i + 1) es)
more es i d x found less so is =
    ap (λ l. l ++ option_to_list (bound_of x)) so
    ∙ ap (λ l. filter_map bound_of (take i es) ++ l) (sym (one x))
    ∙ sym (filter_map-append bound_of (take i es) (x ∷ []))
    ∙ ap (λ y. filter_map bound_of (take i es ++ y ∷ [])) is
    ∙ ap (filter_map bound_of) (sym (take_more es i d less))

pub loop-place-preserved : goal.loop-place-preserved
loop-place-preserved c =
    let less : c.loop-place.place < length c.args.frame.now.entries = omega arith in
    c.in_ok-push_bound.ensures
    ∙ more c.args.frame.now.entries c.loop-place.place (entry.Scope 0) _ c.loop-place.found less c.loop-place.invariant c.get_or-entry.ensures
