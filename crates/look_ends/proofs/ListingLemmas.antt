-- A listing of a search says what was searched.
use Rattle.std.proofs.Common.{◌≡◌, ℕ, List, [], Bool, true, Option, Result, Ok, ap, sym, subst, ◌∙◌}
use Rattle.std.specs.Prelude.{IfOk}
use Rattle.std.proofs.lemmas.Result.{IfOk-weaker}
use Rattle.ends_plain.specs.Ends.{AreAll}
use Rattle.ends_plain.specs.Listed.{AreEnds, ends_of}
use Rattle.ends_plain.specs.declared.config.Found.{Found}
use Rattle.ends_plain.specs.declared.config.Setting.{Setting}
use Rattle.sts_asm.specs.declared.fault.AsmError.{AsmError}
use Rattle.sts_code.specs.Program.{Program}
use Rattle.sts_output.specs.Output.{Output}
use Rattle.look_options.specs.declared.ends.EndsOptions.{EndsOptions}
use Rattle.look_end_lines.specs.Form.{EndsForm, IsFaultIn}
use Rattle.look_calls.specs.Calls.{AreCallEnds}
use Rattle.look_calls.specs.declared.found.CallsFound.{CallsFound}
use Rattle.look_ends.specs.Listing.{IsCallsListing, IsSearch, IsVerdict, Listing, ListsBy, ListsIn, alone, calls_listing, searched_listing, setting}

-- what was searched is what was asked for
pub search_of : (form : EndsForm) (g x : Setting) (text : List ℕ) (number : Option ℕ) (is_refused : Bool) (found : List Found) (states : ℕ) (whole : Bool) (by_calls : Option ℕ) (r : Listing)
    → x ≡ g → AreEnds g found → (whole ≡ true → AreAll g.program g.expiries g.interrupts (ends_of found)) → IsVerdict g.program is_refused
    → r ≡ searched_listing form text x is_refused number found states whole by_calls → IsSearch form text g number r
search_of form g x text number is_refused found states whole by_calls r seen sound complete verdict printed = record {
  found = found;
  states = states;
  whole = whole;
  by_calls = by_calls;
  is_refused = is_refused;
  sound = sound;
  complete = complete;
  verdict = verdict;
  printed = subst (λ (y : Setting). r ≡ searched_listing form text y is_refused number found states whole by_calls) seen printed;
}

-- the ends of the calls of the program that was asked for
pub calls_of : (form : EndsForm) (text : List ℕ) (g : Setting) (number : Option ℕ) (is_refused : Bool) (r : CallsFound) (l : Listing) → AreCallEnds g r.found.items
    → (is_refused ≡ true → r.found.items ≡ []) → IsVerdict g.program is_refused → l ≡ calls_listing form text g.program is_refused number r.found.items r.states r.is_cut_off
    → IsCallsListing form text g number l
calls_of form text g number is_refused r l sound unsearched verdict printed = record {
  found = r.found.items;
  states = r.states;
  is_cut_off = r.is_cut_off;
  is_refused = is_refused;
  sound = sound;
  unsearched = unsearched;
  verdict = verdict;
  printed = printed;
}

-- the listing of the program of a text that was read
pub program_lists : {E : Type 0} (form : EndsForm) (read told : Result Program AsmError) (named text : List ℕ) (wanted : EndsOptions) (number : Option ℕ) (p : Program) (r : Result Listing E)
    → read ≡ told → named ≡ text → read ≡ Ok p → IfOk r (ListsBy form wanted.manner named (setting p wanted) number) → IfOk r (ListsIn form told text wanted number)
program_lists form read told named text wanted number p r same names is h =
    IfOk-weaker r (ListsBy form wanted.manner named (setting p wanted) number) (ListsIn form told text wanted number)
    (λ l k. subst (λ (j : Result Program AsmError). ListsIn form j text wanted number l) (sym is ∙ same)
    (subst (λ (t : List ℕ). ListsBy form wanted.manner t (setting p wanted) number l) names k)) h

-- the output for a fault of a text, alone, is its listing
pub fault_lists : (form : EndsForm) (read told : Result Program AsmError) (text : List ℕ) (wanted : EndsOptions) (number : Option ℕ) (o : Output) (l : Listing) → read ≡ told → l ≡ alone o → IsFaultIn form read text o → ListsIn form told text wanted number l
fault_lists form read told text wanted number o l same is h =
    subst (λ (j : Result Program AsmError). ListsIn form j text wanted number l) (sym h.fault ∙ same) (is ∙ ap alone h.printed)
