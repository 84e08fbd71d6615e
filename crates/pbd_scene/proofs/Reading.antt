-- A list of values that is read one after another.
use Rattle.std.proofs.Common.{◌≡◌, ◌∙◌, ap, sym, refl, ℕ, ◌+◌, ◌<◌, ◌≤◌, List, [], ◌∷◌, ◌++◌, length, get_or, drop, map, Ok, Err, arith}
use Rattle.std.specs.Prelude.{Result, IsErrAnd, Some, unwrap_or}
use Rattle.std.specs.List.{All, sum_by}
use Rattle.std.proofs.lemmas.List.{drop_more, drop_all, length-append, get_or_default}
use Rattle.std.proofs.lemmas.List.Elements.{All-append, All-cons, All-nil}
use Rattle.std.proofs.lemmas.List.Sums.{sum_by_push}
use Rattle.pbd_scene.specs.declared.fault.SceneFault.{SceneFault}
use Rattle.pbd_scene.specs.declared.fault.SceneFault.TheVariants as faults
use Rattle.pbd_scene.specs.Checks.{Broken, Checked, ◌>>=◌, each, Fails, Gives}

-- one more
pub each_more : {X A : Type 0} (read : List A → X → Checked A) (before : List A) (x : X) (xs : List X) (y : A) → read before x ≡ Ok y
    → each read before (x ∷ xs) ≡ each read (before ++ y ∷ []) xs
unfolding each
each_more read before x xs y is = rw is refl

-- one that breaks a rule
pub each_broken : {X A : Type 0} (read : List A → X → Checked A) (before : List A) (x : X) (xs : List X) (e : Broken)
    → read before x ≡ Err e → each read before (x ∷ xs) ≡ Err e
unfolding each
each_broken read before x xs e is = rw is refl

pub each_none : {X A : Type 0} (read : List A → X → Checked A) (before : List A) → each read before [] ≡ Ok before
unfolding each
each_none read before = refl

pub each_fails : {X A : Type 0} (read : List A → X → Checked A) (before : List A) (x : X) (xs : List X) (e : SceneFault)
    (total : Checked (List A)) → Fails e (read before x) → each read before (x ∷ xs) ≡ total → Fails e total
each_fails read before x xs faults.NotToml total fails so_far = absurd fails
each_fails read before x xs (faults.Refused rule table position key) total fails so_far = sym so_far
    ∙ each_broken read before x xs (record { rule = rule; place = record { table = table; position = position }; key = key }) fails
each_fails read before x xs faults.OutOfMemory total fails so_far = tt

-- the list from an element on
at : {V X : Type 0} (f : V → X) (vs : List V) (i : ℕ) (v : V) → i < length vs → v ≡ get_or vs i v
    → map f (drop i vs) ≡ f v ∷ map f (drop (i + 1) vs)
at f vs i v within same = rw (drop_more vs i v within) (ap (λ w. f w ∷ map f (drop (i + 1) vs)) (sym same))

-- a step of the loop: value i of the list is read
pub step_ok : {V X A : Type 0} (f : V → X) (read : List A → X → Checked A) (vs : List V) (i : ℕ) (v : V) (front : List A) (y : A)
    (total : Checked (List A)) → i < length vs → v ≡ get_or vs i v → read front (f v) ≡ Ok y → each read front (map f (drop i vs)) ≡ total
    → each read (front ++ y ∷ []) (map f (drop (i + 1) vs)) ≡ total
step_ok f read vs i v front y total within same is so_far =
    sym (each_more read front (f v) (map f (drop (i + 1) vs)) y is) ∙ sym (ap (each read front) (at f vs i v within same)) ∙ so_far

pub step_fails : {V X A : Type 0} (f : V → X) (read : List A → X → Checked A) (vs : List V) (i : ℕ) (v : V) (front : List A)
    (e : SceneFault) (total : Checked (List A)) → i < length vs → v ≡ get_or vs i v → Fails e (read front (f v))
    → each read front (map f (drop i vs)) ≡ total → Fails e total
step_fails f read vs i v front e total within same fails so_far =
    each_fails read front (f v) (map f (drop (i + 1) vs)) e total fails (sym (ap (each read front) (at f vs i v within same)) ∙ so_far)

pub all_read : {V X A : Type 0} (f : V → X) (read : List A → X → Checked A) (vs : List V) (i : ℕ) (front : List A)
    (total : Checked (List A)) → length vs ≤ i → each read front (map f (drop i vs)) ≡ total → total ≡ Ok front
all_read f read vs i front total past so_far =
    sym so_far ∙ ap (λ ws. each read front (map f ws)) (drop_all i vs past) ∙ each_none read front

-- the index is the number of items read
pub one_longer : {A : Type 0} (front now : List A) (y : A) (i : ℕ) → now ≡ front ++ y ∷ [] → length front ≡ i → length now ≡ i + 1
one_longer front now y i is count = rw is (omega (arith, length-append front (y ∷ []), count))

-- ---- the same of a list that is read as it stands

pub item_and_rest : {X : Type 0} (xs : List X) (i : ℕ) (x : X) → i < length xs → x ≡ get_or xs i x → drop i xs ≡ x ∷ drop (i + 1) xs
item_and_rest xs i x within same = drop_more xs i x within ∙ ap (λ y. y ∷ drop (i + 1) xs) (sym same)

pub next_ok : {X A : Type 0} (read : List A → X → Checked A) (xs : List X) (i : ℕ) (x : X) (front : List A) (y : A)
    (total : Checked (List A)) → i < length xs → x ≡ get_or xs i x → read front x ≡ Ok y → each read front (drop i xs) ≡ total
    → each read (front ++ y ∷ []) (drop (i + 1) xs) ≡ total
next_ok read xs i x front y total within same is so_far =
    sym (each_more read front x (drop (i + 1) xs) y is) ∙ sym (ap (each read front) (item_and_rest xs i x within same)) ∙ so_far

pub next_fails : {X A : Type 0} (read : List A → X → Checked A) (xs : List X) (i : ℕ) (x : X) (front : List A) (e : SceneFault)
    (total : Checked (List A)) → i < length xs → x ≡ get_or xs i x → Fails e (read front x) → each read front (drop i xs) ≡ total
    → Fails e total
next_fails read xs i x front e total within same fails so_far =
    each_fails read front x (drop (i + 1) xs) e total fails (sym (ap (each read front) (item_and_rest xs i x within same)) ∙ so_far)

pub item_ok : {X A : Type 0} (read : List A → X → Checked A) (xs : List X) (i : ℕ) (d : X) (front : List A) (y : A)
    (total : Checked (List A)) → i < length xs → read front (get_or xs i d) ≡ Ok y → each read front (drop i xs) ≡ total
    → each read (front ++ y ∷ []) (drop (i + 1) xs) ≡ total
item_ok read xs i d front y total within is so_far = next_ok read xs i (get_or xs i d) front y total within
    (get_or_default xs i d (get_or xs i d) within) is so_far

pub item_fails : {X A : Type 0} (read : List A → X → Checked A) (xs : List X) (i : ℕ) (d : X) (front : List A) (e : SceneFault)
    (total : Checked (List A)) → i < length xs → Fails e (read front (get_or xs i d)) → each read front (drop i xs) ≡ total → Fails e total
item_fails read xs i d front e total within fails so_far =
    next_fails read xs i (get_or xs i d) front e total within (get_or_default xs i d (get_or xs i d) within) fails so_far

pub last_ok : {X A : Type 0} (read : List A → X → Checked A) (xs : List X) (i : ℕ) (front : List A) (total : Checked (List A))
    → length xs ≤ i → each read front (drop i xs) ≡ total → total ≡ Ok front
last_ok read xs i front total past so_far = sym so_far ∙ ap (each read front) (drop_all i xs past) ∙ each_none read front

-- ---- a fault of a check is the fault of what begins with it

pub bind_fails : {A B : Type 0} (e : SceneFault) (r : Checked A) (f : A → Checked B) → Fails e r → Fails e (r >>= f)
bind_fails faults.NotToml r f fails = absurd fails
bind_fails (faults.Refused rule table position key) r f fails = rw fails refl
bind_fails faults.OutOfMemory r f fails = tt

-- the exit of a `?`
pub stops : {T A B : Type 0} (view : T → B) (result : Result T SceneFault) (e : SceneFault) (r : Checked A) (f : A → Checked B)
    → IsErrAnd result (λ y. y ≡ e) → Fails e r → Gives view result (r >>= f)
stops view (Ok x) e r f is fails = absurd is
stops view (Err y) e r f is fails = rw is (bind_fails e r f fails)

-- the exit of a `?` behind which nothing is looked at
pub fails_so : {T B : Type 0} (view : T → B) (result : Result T SceneFault) (e : SceneFault) (r : Checked B) → IsErrAnd result (λ y. y ≡ e)
    → Fails e r → Gives view result r
fails_so view (Ok x) e r is fails = absurd is
fails_so view (Err y) e r is fails = rw is fails

-- a value that is there, where another stands for one that is not
pub found_gives : {T A : Type 0} (view : T → A) (result : Result T SceneFault) (r : Checked A) (default : A) → Gives view result r
    → Gives view result (r >>= (λ x. Ok (Some x)) >>= λ v. Ok (unwrap_or v default))
found_gives view (Ok x) r default is = rw is refl
found_gives view (Err e) r default fails = bind_fails e (r >>= λ x. Ok (Some x)) _ (bind_fails e r _ fails)

-- ---- items of which each fits, and for which there is room together

pub one_more : {A : Type 0} (fits : A → Type 0) (size : A → ℕ) (count : ℕ) (before : List A) (x : A) → All fits before → fits x
    → count + sum_by size before + size x ≤ 65536
    → (count + sum_by size (before ++ x ∷ []) ≤ 65536) × All fits (before ++ x ∷ [])
one_more fits size count before x all fit room = (
  omega (arith, room, sum_by_push size before x),
  All-append fits before (x ∷ []) all (All-cons fits x [] fit (All-nil fits)),
)
