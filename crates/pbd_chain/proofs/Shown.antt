-- Slots that show chains go on to show them when an item is linked or unlinked.
use Rattle.std.proofs.Common.{◌≡◌, ◌≢◌, ℕ, zero, suc, ◌+◌, ◌<◌, ◌≤◌, ◌||◌, Bool, true, false, List, [], ◌∷◌, length, map, get_or, set}
use Rattle.std.proofs.Common.{replicate, Option, Some, None, is_some, slice_get, refl, sym, ap, ◌∙◌, subst, arith, inl, inr}
use Rattle.std.proofs.lemmas.Bool.{cases_eq, cases_lt, cases_Bool, or_cases, false≢true}
use Rattle.std.proofs.lemmas.List.{get_or-map, get_or-set_same, get_or-set_other, length-map, length-set, ext_get_or, get_or_past}
use Rattle.std.proofs.lemmas.List.{length-replicate, get_or-replicate}
use Rattle.std.proofs.lemmas.List.FromFn.{get_or-map-range_with_len, length-map-range_with_len}
use Rattle.pbd_chain.specs.declared.links.Slot.{Slot}
use Rattle.pbd_chain.specs.declared.links.Slot.TheVariants.{Head, After}
use Rattle.pbd_chain.specs.Succession.{at, back_of, IsSuccession, follow}
use Rattle.pbd_chain.specs.Changes.{LinksFront, Unlinks, IsSlot}
use Rattle.pbd_chain.specs.Linked.{is_in, is_linked, without, chain_at, chains_of, Shows, Linked}
use Rattle.pbd_chain.proofs.Successions.{In, In-from_test, test-from_In, In-without, without-In, tells_slot, Stands, stands, length_le}
use Rattle.pbd_chain.proofs.Successions.{follow_is, succession-unlinked, succession-kept, succession-linked}

abbrev pub none_of : (A : Type 0) → List A
none_of A = []

abbrev pub nothing : (A : Type 0) → Option A
nothing A = None

-- ---- one of the chains
pub linked-at : (chains : List (List ℕ)) (x c : ℕ) → c < length chains → is_in x (chain_at chains c) ≡ true → is_linked chains x ≡ true
linked-at [] x c l h = absurd (omega arith)
linked-at (xs ∷ xss) x zero l h = rw h refl
linked-at (xs ∷ xss) x (suc c) l h = or_right (is_in x xs) (is_linked xss x) (linked-at xss x c (omega arith) h)
  where
    or_right : (a b : Bool) → b ≡ true → (a || b) ≡ true
    or_right true b e = refl
    or_right false b e = e

pub at-linked : (chains : List (List ℕ)) (x : ℕ) → is_linked chains x ≡ true
    → (c : ℕ) × (c < length chains) × (is_in x (chain_at chains c) ≡ true)
at-linked [] x h = absurd (false≢true h)
at-linked (xs ∷ xss) x h = elim (or_cases (is_in x xs) (is_linked xss x) h) [
  | inl e ↦ (0, omega arith, e)
  | inr t ↦ (let r = at-linked xss x t in (suc r.0, omega (arith, r.1), r.2))
]

module _ {heads next : List (Option ℕ)} {back : List (Option Slot)} {chains : List (List ℕ)} (h : Shows heads next back chains) where
  f : Slot → Option ℕ
  f = at heads next

  -- the chains that the slots show are the chains
  pub shown_is : chains_of heads next ≡ chains
  shown_is = ext_get_or [] (chains_of heads next) chains (length-map-range_with_len _ 0 (length heads) ∙ sym h.count)
      (λ c l. let within : c < length heads = omega (
        arith,
        length-map-range_with_len (λ c. follow (at heads next) (length next) (Head c)) 0 (length heads),
        l,
      ) in
      get_or-map-range_with_len (λ c. follow (at heads next) (length next) (Head c)) 0 (length heads) c c [] within (omega arith)
      ∙ follow_is (at heads next) (back_of back) (length next) (Head c) (chain_at chains c) (h.successions c within)
      (length_le (at heads next) (back_of back) (length next) c (chain_at chains c) (h.successions c within)
      (λ x i. h.items c x within (test-from_In x (chain_at chains c) i))))

  pub stands_at : (c x : ℕ) → c < length heads → is_in x (chain_at chains c) ≡ true
      → (r : Slot) × Stands (at heads next) (back_of back) (Head c) (chain_at chains c) x r
  stands_at c x l i = stands (at heads next) (back_of back) (Head c) (chain_at chains c) x (h.successions c l) (In-from_test x _ i)

  -- where a linked item stands, in some chain
  pub stands_linked : (x : ℕ) → is_linked chains x ≡ true
      → (c : ℕ) × (c < length heads) × ((r : Slot) × Stands (at heads next) (back_of back) (Head c) (chain_at chains c) x r)
  stands_linked x i = let k = at-linked chains x i in let l : k.0 < length heads = omega (arith, k.1, h.count) in
      (k.0, l, stands_at k.0 x l k.2)

  pub linked_tells : (x : ℕ) (s : Slot) → back_of back x ≡ Some s → is_linked chains x ≡ true
  linked_tells x s e = let k = h.linked x s e in linked-at chains x k.0 (omega (arith, k.1, h.count)) k.2

  pub free_tells : (x : ℕ) → is_linked chains x ≡ false → back_of back x ≡ None
  free_tells x e = none_behind (back_of back x) refl
    where
      none_behind : (o : Option Slot) → back_of back x ≡ o → back_of back x ≡ None
      none_behind None k = k
      none_behind (Some s) k = absurd (false≢true (sym e ∙ linked_tells x s k))

  pub item_below : (x : ℕ) → is_linked chains x ≡ true → x < length next
  item_below x i = let k = at-linked chains x i in h.items k.0 x (omega (arith, k.1, h.count)) k.2

  pub told_below : (x : ℕ) (s : Slot) → back_of back x ≡ Some s → x < length next
  told_below x s e = item_below x (linked_tells x s e)

  pub first_below : (c z : ℕ) → c < length heads → get_or heads c None ≡ Some z → z < length next
  first_below c z l e = told_below z (Head c) (tells_slot (at heads next) (back_of back) (Head c) (chain_at chains c)
      (h.successions c l) z e)

  pub behind_below : (x z : ℕ) → is_linked chains x ≡ true → get_or next x None ≡ Some z → z < length next
  behind_below x z i e = let k = stands_linked x i in told_below z (After x) (k.2.1.behind z e)

  -- the slot of a linked item
  pub slot_below : (x : ℕ) (s : Slot) → back_of back x ≡ Some s → IsSlot (length heads) (length next) s
  slot_below x (Head c) e = let k = stands_linked x (linked_tells x (Head c) e) in head_in k.0 k.1 k.2.0 k.2.1
    where
      head_in : (d : ℕ) → d < length heads → (r : Slot) → Stands (at heads next) (back_of back) (Head d) (chain_at chains d) x r
          → c < length heads
      head_in d l r w = elim w.which [
        | inl k ↦ (let same : c ≡ d = (let a = w.tells in cc) in omega (arith, same))
        | inr k ↦ (let no : ⊥ = (let a = w.tells in let b = k.2 in cc) in absurd no)
      ]
  slot_below x (After y) e = let k = stands_linked x (linked_tells x (After y) e) in after_in k.0 k.1 k.2.0 k.2.1
    where
      after_in : (d : ℕ) → d < length heads → (r : Slot) → Stands (at heads next) (back_of back) (Head d) (chain_at chains d) x r
          → y < length next
      after_in d l r w = elim w.which [
        | inl k ↦ (let no : ⊥ = (let a = w.tells in cc) in absurd no)
        | inr k ↦ (let same : y ≡ k.0 = (let a = w.tells in let b = k.2 in cc) in
            subst (λ (n : ℕ). n < length next) (sym same) (h.items d k.0 l (test-from_In k.0 (chain_at chains d) k.1)))
      ]

-- ---- changes
module _ {heads next heads' next' : List (Option ℕ)} {back back' : List (Option Slot)} {chains : List (List ℕ)}
    (h : Shows heads next back chains)
    (lh : length heads' ≡ length heads) (ln : length next' ≡ length next) (lb : length back' ≡ length back) where
  pub Shows-unlink : (x : ℕ) → is_linked chains x ≡ true → ((s : Slot) → back_of back x ≡ Some s
      → Unlinks (at heads next) (at heads' next') (back_of back) (back_of back') x s)
      → Shows heads' next' back' (map (without x) chains)
  Shows-unlink x i changes =
      let k = stands_linked h x i in let p = k.2.0 in let w = k.2.1 in let u = changes p w.tells in
      let chain : (c : ℕ) → c < length heads → chain_at (map (without x) chains) c
      ≡ without x (chain_at chains c) = λ c l. get_or-map (without x) chains c [] [] (omega (arith, h.count, l)) in
      record {
        few = omega (arith, ln, h.few);
        backs = omega (arith, lb, ln, h.backs);
        count = length-map chains (without x) ∙ h.count ∙ sym lh;
        successions = λ c l. let m : c < length heads = omega (arith, lh, l) in
            subst (λ (xs : List ℕ). IsSuccession (at heads' next') (back_of back') (Head c) xs) (sym (chain c m))
            (succession-unlinked u w.tells w.holds w.behind (Head c) (chain_at chains c) (h.successions c m) (λ e. cc));
        items = λ c y l t. let m : c < length heads = omega (arith, lh, l) in
            let old : In y (chain_at chains c) = In-without x y (chain_at chains c)
            (In-from_test y _ (subst (λ (xs : List ℕ). is_in y xs ≡ true) (chain c m) t)) in
            subst (λ (n : ℕ). y < n) (sym ln) (h.items c y m (test-from_In y _ old));
        linked = λ y s e.
            let other : y ≢ x = λ same. let a = u.own in let b = ap (back_of back') same in cc in
            let told : (r : Slot) × (back_of back y ≡ Some r) = find y s other u w.behind e (at heads next (After x)) refl in
            let old = h.linked y told.0 told.1 in (
              old.0,
              omega (arith, lh, old.1),
              subst (λ (xs : List ℕ). is_in y xs ≡ true) (sym (chain old.0 old.1))
                  (test-from_In y _ (without-In x y _ (In-from_test y _ old.2) other)),
            );
      }
    where
      find : {p : Slot} (y : ℕ) (s : Slot) → y ≢ x → Unlinks (at heads next) (at heads' next') (back_of back) (back_of back') x p
          → ((z : ℕ) → at heads next (After x) ≡ Some z → back_of back z ≡ Some (After x))
          → back_of back' y ≡ Some s → (o : Option ℕ) → at heads next (After x) ≡ o → (r : Slot) × (back_of back y ≡ Some r)
      find y s other u behind e None k = (s, sym (u.rest y other (λ m. cc)) ∙ e)
      find y s other u behind e (Some z) k = elim (cases_eq z y) [
        | inl same ↦ (After x, subst (λ (n : ℕ). back_of back n ≡ Some (After x)) same (behind z k))
        | inr ne ↦ (s, sym (u.rest y other (λ m. ne cc)) ∙ e)
      ]

  pub Shows-link : (c x : ℕ) → c < length heads → x < length next → is_linked chains x ≡ false
      → LinksFront (at heads next) (at heads' next') (back_of back) (back_of back') c x
      → Shows heads' next' back' (set chains c (x ∷ chain_at chains c))
  Shows-link c x lc lx free l =
      let none : back_of back x ≡ None = free_tells h x free in
      let first : (z : ℕ) → at heads next (Head c) ≡ Some z
      → back_of back z ≡ Some (Head c) = tells_slot (at heads next) (back_of back) (Head c) (chain_at chains c) (h.successions c lc) in
      let new : List (List ℕ) = set chains c (x ∷ chain_at chains c) in
      let here : chain_at (set chains c (x ∷ chain_at chains c)) c ≡ x
      ∷ chain_at chains c = get_or-set_same chains c _ [] (omega (arith, h.count, lc)) in
      let there : (d : ℕ) → d ≢ c → chain_at (set chains c (x ∷ chain_at chains c)) d
      ≡ chain_at chains d = λ d ne. get_or-set_other chains c d _ [] ne in
      record {
        few = omega (arith, ln, h.few);
        backs = omega (arith, lb, ln, h.backs);
        count = length-set chains c _ ∙ h.count ∙ sym lh;
        successions = λ d ld. let m : d < length heads = omega (arith, lh, ld) in elim (cases_eq d c) [
          | inl e ↦ subst (λ (n : ℕ). IsSuccession (at heads' next') (back_of back') (Head n)
              (chain_at (set chains c (x ∷ chain_at chains c)) n)) (sym e)
              (subst (λ (xs : List ℕ). IsSuccession (at heads' next') (back_of back') (Head c) xs) (sym here)
              (succession-linked l none first (chain_at chains c) (h.successions c lc)))
          | inr ne ↦ subst (λ (xs : List ℕ). IsSuccession (at heads' next') (back_of back') (Head d) xs) (sym (there d ne))
              (succession-kept l none first (Head d) (chain_at chains d) (h.successions d m) (λ e. ne cc) (λ e. cc))
        ];
        items = λ d y ld t. let m : d < length heads = omega (arith, lh, ld) in subst (λ (n : ℕ). y < n) (sym ln) (elim (cases_eq d c) [
          | inl e ↦ (let i : In y (x ∷ chain_at chains c) = In-from_test y (x ∷ chain_at chains c)
              (subst (λ (xs : List ℕ). is_in y xs ≡ true) (ap (chain_at (set chains c (x ∷ chain_at chains c))) e ∙ here) t) in
              elim i [ inl same ↦ subst (λ (n : ℕ). n < length next) same lx | inr old ↦ h.items c y lc (test-from_In y _ old) ])
          | inr ne ↦ h.items d y m (subst (λ (xs : List ℕ). is_in y xs ≡ true) (there d ne) t)
        ]);
        linked = λ y s e. elim (cases_eq y x) [
          | inl same ↦ (
            c,
            omega (arith, lh, lc),
            subst (λ (xs : List ℕ). is_in y xs ≡ true) (sym here)
                (test-from_In y (x ∷ chain_at chains c) (inl (sym same))),
          )
          | inr other ↦ (let told = find y s other first e (at heads next (Head c)) refl in let old = h.linked y told.0 told.1 in (
            old.0,
            omega (arith, lh, old.1),
            elim (cases_eq old.0 c) [
              | inl k ↦ subst (λ (xs : List ℕ). is_in y xs ≡ true) (sym (ap (chain_at (set chains c (x ∷ chain_at chains c))) k ∙ here))
                  (test-from_In y (x ∷ chain_at chains c) (inr (In-from_test y _
                  (subst (λ (n : ℕ). is_in y (chain_at chains n) ≡ true) k old.2))))
              | inr k ↦ subst (λ (xs : List ℕ). is_in y xs ≡ true) (sym (there old.0 k)) old.2
            ],
          ))
        ];
      }
    where
      find : (y : ℕ) (s : Slot) → y ≢ x → ((z : ℕ) → at heads next (Head c) ≡ Some z → back_of back z ≡ Some (Head c))
          → back_of back' y ≡ Some s → (o : Option ℕ) → at heads next (Head c) ≡ o → (r : Slot) × (back_of back y ≡ Some r)
      find y s other first e None k = (s, sym (l.rest y other (λ m. cc)) ∙ e)
      find y s other first e (Some z) k = elim (cases_eq z y) [
        | inl same ↦ (Head c, subst (λ (n : ℕ). back_of back n ≡ Some (Head c)) same (first z k))
        | inr ne ↦ (s, sym (l.rest y other (λ m. ne cc)) ∙ e)
      ]

module _ (f : Slot → Option ℕ) (g : ℕ → Option Slot) where
  pub succession-first : (s : Slot) (xs : List ℕ) → IsSuccession f g s xs → f s ≡ slice_get xs 0
  succession-first s [] h = h
  succession-first s (x ∷ xs) h = h.0

  pub succession-next : (s : Slot) (xs : List ℕ) (k x : ℕ) → IsSuccession f g s xs → slice_get xs k ≡ Some x
      → f (After x) ≡ slice_get xs (k + 1)
  succession-next s [] k x h e = cc
  succession-next s (y ∷ ys) zero x h e = let same : y ≡ x = cc in
      subst (λ (n : ℕ). f (After n) ≡ slice_get ys 0) same (succession-first (After y) ys h.2)
  succession-next s (y ∷ ys) (suc k) x h e = succession-next (After y) ys k x h.2 e
      ∙ ap (slice_get (y ∷ ys)) (let m : suc (k + 1) ≡ suc k + 1 = omega arith in m)

module _ {heads next : List (Option ℕ)} {back : List (Option Slot)} {chains : List (List ℕ)} (h : Shows heads next back chains) where
  pub chain_le : (c : ℕ) → c < length heads → length (chain_at chains c) ≤ length next
  chain_le c l = length_le (at heads next) (back_of back) (length next) c (chain_at chains c) (h.successions c l)
      (λ x i. h.items c x l (test-from_In x (chain_at chains c) i))

  pub shown-first : (c : ℕ) → c < length heads → get_or heads c None ≡ slice_get (chain_at chains c) 0
  shown-first c l = succession-first (at heads next) (back_of back) (Head c) (chain_at chains c) (h.successions c l)

  pub shown-next : (c k x : ℕ) → slice_get (chain_at chains c) k ≡ Some x → get_or next x None ≡ slice_get (chain_at chains c) (k + 1)
  shown-next c k x e = elim (cases_lt c (length heads)) [
    | inl l ↦ succession-next (at heads next) (back_of back) (Head c) (chain_at chains c) k x (h.successions c l) e
    | inr m ↦ (let none : chain_at chains c ≡ [] = get_or_past chains c [] (omega (arith, h.count, m)) in
        let k = ap (λ (xs : List ℕ). slice_get xs k) none in let no : ⊥ = cc in absurd no)
  ]

  pub is_linked_by : (x : ℕ) → is_some (back_of back x) ≡ is_linked chains x
  is_linked_by x = elim (cases_Bool (is_linked chains x)) [
    | inl t ↦ (let k = stands_linked h x t in rw (k.2.1.tells, t) refl)
    | inr t ↦ rw (free_tells h x t, t) refl
  ]

-- nothing is linked
pub Shows-none : (heads next : List (Option ℕ)) (back : List (Option Slot)) (chains : List (List ℕ)) → length next ≤ 2097152
    → length back ≡ length next → length chains ≡ length heads
    → ((c : ℕ) → get_or heads c None ≡ None) → ((x : ℕ) → get_or back x None ≡ None) → ((c : ℕ) → get_or chains c [] ≡ [])
    → Shows heads next back chains
Shows-none heads next back chains few lb lc hs bs cs = record {
  few = few;
  backs = lb;
  count = lc;
  successions = λ c l. subst (λ (xs : List ℕ). IsSuccession (at heads next) (back_of back) (Head c) xs) (sym (cs c)) (hs c);
  items = λ c x l t. absurd (false≢true (subst (λ (xs : List ℕ). is_in x xs ≡ true) (cs c) t));
  linked = λ x s e. let b = bs x in let no : ⊥ = cc in absurd no;
}

-- what shows chains shows those that it is seen as
pub shows-seen : {heads next : List (Option ℕ)} {back : List (Option Slot)} {chains : List (List ℕ)} → Shows heads next back chains
    → Shows heads next back (chains_of heads next)
shows-seen h = rw (shown_is h) h

abbrev pub shown : List (Option ℕ) → List (Option ℕ) → Linked
shown heads next = record { items = length next; chains = chains_of heads next }

abbrev pub linked_as : ℕ → List (List ℕ) → Linked
linked_as n xss = record { items = n; chains = xss }

pub view-shown : {heads next : List (Option ℕ)} {back : List (Option Slot)} {chains : List (List ℕ)} (items : ℕ)
    → length next ≡ items → Shows heads next back chains → shown heads next ≡ linked_as items chains
view-shown items l h = rw (shown_is h, l) refl

pub all_empty : (chains : List (List ℕ)) → replicate (length chains) (none_of ℕ) ≡ map (λ _. none_of ℕ) chains
all_empty [] = refl
all_empty (xs ∷ xss) = ap (λ (yss : List (List ℕ)). none_of ℕ ∷ yss) (all_empty xss)

pub shown-none : (heads next : List (Option ℕ)) (back : List (Option Slot)) → length next ≤ 2097152 → length back ≡ length next
    → ((c : ℕ) → get_or heads c None ≡ None) → ((x : ℕ) → get_or back x None ≡ None)
    → Shows heads next back (replicate (length heads) (none_of ℕ))
shown-none heads next back few lb hs bs = Shows-none heads next back (replicate (length heads) (none_of ℕ)) few lb
    (length-replicate (length heads) (none_of ℕ)) hs bs
    (λ c. elim (cases_lt c (length heads)) [
      | inl l ↦ get_or-replicate (length heads) c (none_of ℕ) [] l
      | inr m ↦ get_or_past (replicate (length heads) (none_of ℕ)) c [] (omega (arith, m, length-replicate (length heads) (none_of ℕ)))
    ])

pub none-replicated : {A : Type 0} (n c : ℕ) → get_or (replicate n (nothing A)) c None ≡ None
none-replicated {A} n c = elim (cases_lt c n) [
  | inl l ↦ get_or-replicate n c (nothing A) None l
  | inr m ↦ get_or_past (replicate n (nothing A)) c None (omega (arith, m, length-replicate n (nothing A)))
]

pub opened-shows : (chains items : ℕ) → items ≤ 2097152 → (heads next : List (Option ℕ)) (back : List (Option Slot))
    → heads ≡ replicate chains (nothing ℕ) → next ≡ replicate items (nothing ℕ) → back ≡ replicate items (nothing Slot)
    → Shows heads next back (replicate chains (none_of ℕ))
opened-shows chains items few heads next back eh en eb =
    let lh : length heads ≡ chains = ap length eh ∙ length-replicate chains (nothing ℕ) in
    subst (λ (n : ℕ). Shows heads next back (replicate n (none_of ℕ))) lh
    (shown-none heads next back (omega (arith, few, ap length en, length-replicate items (nothing ℕ)))
    (ap length eb ∙ length-replicate items (nothing Slot) ∙ sym (ap length en ∙ length-replicate items (nothing ℕ)))
    (λ c. ap (λ (xs : List (Option ℕ)). get_or xs c None) eh ∙ none-replicated chains c)
    (λ x. ap (λ (xs : List (Option Slot)). get_or xs x None) eb ∙ none-replicated items x))

-- ---- each item stands once
slot_at : Slot → List ℕ → ℕ → Slot
slot_at s xs zero = s
slot_at s [] (suc k) = s
slot_at s (x ∷ xs) (suc k) = slot_at (After x) xs k

module _ (f : Slot → Option ℕ) (g : ℕ → Option Slot) where
  slot_told : (s : Slot) (xs : List ℕ) (k x : ℕ) → IsSuccession f g s xs → slice_get xs k ≡ Some x → g x ≡ Some (slot_at s xs k)
  unfolding slot_at
  slot_told s [] k x h e = let no : ⊥ = cc in absurd no
  slot_told s (y ∷ ys) zero x h e = let same : y ≡ x = cc in subst (λ (n : ℕ). g n ≡ Some s) same h.1
  slot_told s (y ∷ ys) (suc k) x h e = slot_told (After y) ys k x h.2 e

slot_behind : (s : Slot) (xs : List ℕ) (k x : ℕ) → slice_get xs (suc k) ≡ Some x
    → (y : ℕ) × (slice_get xs k ≡ Some y) × (slot_at s xs (suc k) ≡ After y)
unfolding slot_at
slot_behind s [] k x e = let no : ⊥ = cc in absurd no
slot_behind s (y ∷ ys) zero x e = (y, refl, refl)
slot_behind s (y ∷ ys) (suc k) x e = slot_behind (After y) ys k x e

slot_first : (s : Slot) (xs : List ℕ) → slot_at s xs 0 ≡ s
unfolding slot_at
slot_first s [] = refl
slot_first s (x ∷ xs) = refl

module _ {heads next : List (Option ℕ)} {back : List (Option Slot)} {chains : List (List ℕ)} (h : Shows heads next back chains) where
  within_heads : (c k x : ℕ) → slice_get (chain_at chains c) k ≡ Some x → c < length heads
  within_heads c k x e = elim (cases_lt c (length heads)) [
    | inl l ↦ l
    | inr m ↦ (let none : chain_at chains c ≡ [] = get_or_past chains c [] (omega (arith, h.count, m)) in
        let n = ap (λ (xs : List ℕ). slice_get xs k) none in let no : ⊥ = cc in absurd no)
  ]

  told_at : (c k x : ℕ) → slice_get (chain_at chains c) k ≡ Some x → back_of back x ≡ Some (slot_at (Head c) (chain_at chains c) k)
  told_at c k x e = slot_told (at heads next) (back_of back) (Head c) (chain_at chains c) k x (h.successions c (within_heads c k x e)) e

  pub stands_once : (c d j k x : ℕ) → slice_get (chain_at chains c) j ≡ Some x → slice_get (chain_at chains d) k ≡ Some x
      → (c ≡ d) × (j ≡ k)
  stands_once c d zero zero x e i =
      let a = told_at c 0 x e in let b = told_at d 0 x i in
      let p = slot_first (Head c) (chain_at chains c) in let q = slot_first (Head d) (chain_at chains d) in
      (cc, refl)
  stands_once c d zero (suc k) x e i =
      let a = told_at c 0 x e in let b = told_at d (suc k) x i in
      let p = slot_first (Head c) (chain_at chains c) in let q = (slot_behind (Head d) (chain_at chains d) k x i).2 in
      let no : ⊥ = cc in absurd no
  stands_once c d (suc j) zero x e i =
      let a = told_at c (suc j) x e in let b = told_at d 0 x i in
      let p = slot_first (Head d) (chain_at chains d) in let q = (slot_behind (Head c) (chain_at chains c) j x e).2 in
      let no : ⊥ = cc in absurd no
  stands_once c d (suc j) (suc k) x e i =
      let a = told_at c (suc j) x e in let b = told_at d (suc k) x i in
      let p = slot_behind (Head c) (chain_at chains c) j x e in let q = slot_behind (Head d) (chain_at chains d) k x i in
      let same : p.0 ≡ q.0 = (let r = p.2 in let s = q.2 in cc) in
      let r = stands_once c d j k q.0 (p.1 ∙ ap Some same) q.1 in
      (r.0, ap suc r.1)
