-- The effect of `push_back` and `unlink` on their list and on every other.
use Rattle.std.proofs.Common.{◌≡◌, ◌≢◌, ℕ, List, [], ◌∷◌, ◌++◌, Option, Some, None, sym, ◌∙◌}
use Rattle.std.specs.List.{last_or}
use Rattle.sts_links.specs.Lists.{first_or, AreDistinct, IsList, with_after, with_before, Relinks, Differs, BecomesList, if_none}
use Rattle.laws_words.specs.Keys.{NotIn}
use Rattle.sts_links.specs.declared.links.Link.{Link}
use Rattle.sts_links.specs.declared.links.Ends.{Ends}
use Rattle.sts_links.proofs.KeyLemmas.{distinct_front, distinct_back, distinct_less, distinct_more, apart, head_not, last_none, last_more, first_more}
use Rattle.laws_words.proofs.KeyLemmas.{not_front, not_back}
use Rattle.sts_links.proofs.KeyLemmas.{first_less, last_less, apart_key}
use Rattle.sts_links.proofs.ChainLemmas.{joined, front_of, back_of, list_stays, relast, rehead, head_link}

-- if only the keys of one list got other links, the other lists are unchanged
becomes : (a c : ℕ → ℕ → Option Link) (l : ℕ) (result : Ends) (keys : List ℕ) → IsList (c l) result keys → Differs a c l keys → BecomesList a c l result keys
becomes a c l result keys is d =
    record {
      is_list = is;
      links = d;
      others = λ m list others of_others apart. list_stays (a m) (c m) list others (λ k inside. d m k (λ e. apart_key k others keys (apart e) inside)) of_others;
    }

-- one more key at the end
pub pushed : (a b c : ℕ → ℕ → Option Link) (l : ℕ) (list : Ends) (key : ℕ) (keys : List ℕ) → IsList (a l) list keys → NotIn key keys → Relinks a b (with_after (Some key)) l list.last → c l key ≡ Some (record { before = list.last; after = None }) → ((m j : ℕ) → (m ≡ l → j ≢ key) → c m j ≡ b m j) → BecomesList a c l (record { first = if_none list.first (Some key) list.first; last = Some key }) (keys ++ key ∷ [])
pushed a b c l list key keys is new re set others =
    let apart_from : (k : ℕ) → (NotIn k keys → ⊥) → k ≢ key = λ k inside e. inside (rw e new) in
    becomes a c l _ (keys ++ key ∷ [])
    (record {
      first = first_more list.first keys key is.first;
      last = last_more None keys key;
      linked =
          joined (c l) None keys (key ∷ []) None
          (relast (a l) (c l) None keys None (Some key) is.distinct is.linked
          (λ k link e at inside. others l k (λ _. apart_from k inside) ∙ re.changed k link (is.last ∙ e) at)
          (λ k inside ne. others l k (λ _. apart_from k inside) ∙ re.others l k (λ _ e. ne (sym is.last ∙ e))))
          ((rw is.last at set), tt);
      distinct = distinct_more keys key is.distinct new;
    })
    (λ m j h.
    others m j (λ e. (not_back j keys (key ∷ []) (h e)).0)
    ∙ re.others m j (λ e q. last_none j keys (not_front j keys (key ∷ []) (h e)) (sym is.last ∙ q)))

-- one key less
pub unlinked : (a b c : ℕ → ℕ → Option Link) (l : ℕ) (list : Ends) (key : ℕ) (link : Link) (front back : List ℕ) → IsList (a l) list (front ++ key ∷ back) → a l key ≡ Some link → Relinks a b (with_after link.after) l link.before → Relinks b c (with_before link.before) l link.after → BecomesList a c l (record { first = if_none link.before link.after list.first; last = if_none link.after link.before list.last }) (front ++ back)
unlinked a b c l list key link front back is at re rf =
    let here = (back_of (a l) None front (key ∷ back) None is.linked) in
    let before : link.before ≡ last_or None front = let e = here.0 in cc in
    let after : link.after ≡ first_or back None = let e = here.0 in cc in
    let whole = is.distinct in
    let ends : AreDistinct back = (distinct_back front (key ∷ back) whole).1 in
    let less : AreDistinct (front ++ back) = distinct_less front key back whole in
    let in_back : (k : ℕ) → (NotIn k back → ⊥) → last_or None front ≢ Some k = λ k inside. last_none k front (apart k front back less inside) in
    let in_front : (k : ℕ) → (NotIn k front → ⊥) → first_or back None ≢ Some k =
    λ k inside e. inside (apart k front back less (λ h. head_not k back h e))
    in
    becomes a c l _ (front ++ back)
    (record {
      first = rw (before, after) (first_less list.first front key back is.first);
      last = rw (before, after) (last_less list.last front key back is.last);
      linked =
          joined (c l) None front back None
          (relast (a l) (c l) None front (Some key) (first_or back None) (distinct_front front (key ∷ back) whole) (front_of (a l) None front (key ∷ back) None is.linked)
          (λ k other e q inside. rf.others l k (λ _ x. in_front k inside (sym after ∙ x)) ∙ (rw after at (re.changed k other (before ∙ e) q)))
          (λ k inside ne. rf.others l k (λ _ x. in_front k inside (sym after ∙ x)) ∙ re.others l k (λ _ x. ne (sym before ∙ x))))
          (rehead (a l) (c l) (Some key) (last_or None front) back None ends here.1
          (λ k other e q.
          rw before at
          (rf.changed k other (after ∙ e) (re.others l k (λ _ x. in_back k (λ h. head_not k back h e) (sym before ∙ x)) ∙ q)))
          (λ k inside ne. rf.others l k (λ _ x. ne (sym after ∙ x)) ∙ re.others l k (λ _ x. in_back k inside (sym before ∙ x))));
      distinct = less;
    })
    (λ m j h.
    rf.others m j (λ e q. head_not j back (not_back j front back (h e)) (sym after ∙ q))
    ∙ re.others m j (λ e q. last_none j front (not_front j front back (h e)) (sym before ∙ q)))

-- the next key of a key that is taken out keeps a link while the key before it changes
pub after_link : (a b : ℕ → ℕ → Option Link) (l : ℕ) (list : Ends) (front : List ℕ) (key : ℕ) (back : List ℕ) (link : Link) (k : ℕ) → IsList (a l) list (front ++ key ∷ back) → a l key ≡ Some link → Relinks a b (with_after link.after) l link.before → link.after ≡ Some k → b l k ≢ None
after_link a b l list front key back link k is e re q =
    let here = (back_of (a l) None front (key ∷ back) None is.linked) in
    let before : link.before ≡ last_or None front = let f = here.0 in cc in
    let after : link.after ≡ first_or back None = let f = here.0 in cc in
    let less : AreDistinct (front ++ back) = distinct_less front key back is.distinct in
    let h : a l k ≢ None = head_link (a l) (Some key) back None k here.1 (sym after ∙ q) in
    λ none. h (sym (re.others l k (λ _ x. last_none k front (apart k front back less (λ n. head_not k back n (sym after ∙ q))) (sym before ∙ x))) ∙ none)
