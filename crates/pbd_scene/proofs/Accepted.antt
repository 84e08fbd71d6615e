-- What the checks of keys and entries accept.
use Rattle.std.proofs.Common.{◌≡◌, refl, ℕ, ◌+◌, ◌≤◌, List, [], ◌∷◌, ◌++◌, length, Bool, true, false, Ok, Err, Option, Some, None, arith}
use Rattle.std.proofs.Common.{pos, negsuc, ℤ, subst}
use Rattle.std.specs.Prelude.{unwrap_or, ◌&&◌, nat_le, int_le, unsigned_abs}
use Rattle.std.specs.List.{list_all}
use Rattle.std.proofs.lemmas.Int.{ints}
use Rattle.std.proofs.lemmas.Bool.{and_parts, leb-true}
use Rattle.std.proofs.lemmas.Bool.Decides.{nat_tests}
use Rattle.std.proofs.lemmas.List.{length-append}
use Rattle.std.proofs.lemmas.List.Folds.{list_all-append}
use Rattle.toml.specs.Data.{Data, Members, get_member}
use Rattle.pbd_num.specs.declared.Vec3.{Vec3}
use Rattle.pbd_num.specs.Vectors.{is_within}
use Rattle.pbd_scene.specs.declared.fault.SceneRule.{SceneRule}
use Rattle.pbd_scene.specs.declared.fault.SceneRule.TheVariants.{MissingKey, WrongType, OutOfRange, TooMany}
use Rattle.pbd_scene.specs.declared.fault.Place.{Place}
use Rattle.pbd_scene.specs.declared.tables.KeyName.{KeyName}
use Rattle.pbd_scene.specs.declared.tables.TableName.{TableName}
use Rattle.pbd_scene.specs.declared.tables.KeyName.TheVariants as keys
use Rattle.pbd_scene.specs.Checks.{Checked, ◌>>=◌, expect, expect_some, each}
use Rattle.pbd_scene.specs.Keys.{table_text}
use Rattle.pbd_scene.specs.Values.{value_of, found, integer, any_integer, required_integer, optional_integer, integer_or, count_or, vector}
use Rattle.pbd_scene.specs.Values.{three_integers, required_vector, vector_or, array_of, at, entries, entries_of, entry, entry_of, table_of}

-- ---- chains of checks

pub bind_ok : {A B : Type 0} (r : Checked A) (f : A → Checked B) (y : B) → r >>= f ≡ Ok y → (x : A) × (r ≡ Ok x) × (f x ≡ Ok y)
bind_ok (Ok x) f y is = (x, refl, is)
bind_ok (Err e) f y is = cc

pub expect_ok : (test : Bool) (rule : SceneRule) (place : Place) (key : KeyName) (u : Unit {0}) → expect test rule place key ≡ Ok u
    → test ≡ true
expect_ok true rule place key u is = refl
expect_ok false rule place key u is = cc

pub same_ok : {A : Type 0} (x y : A) → ◌≡◌ {A = Checked A} (Ok x) (Ok y) → x ≡ y
same_ok x y is = cc

-- what holds behind the first of two checks
pub through : {A B P : Type 0} (r : Checked A) (f : A → Checked B) (y : B) → r >>= f ≡ Ok y → ((x : A) → r ≡ Ok x → f x ≡ Ok y → P) → P
through r f y is k = let b = bind_ok r f y is in k b.0 b.1 b.2

-- a test, and then a value
pub tested : {A : Type 0} (test : Bool) (rule : SceneRule) (place : Place) (key : KeyName) (x y : A)
    → expect test rule place key >>= (λ _. Ok x) ≡ Ok y → (test ≡ true) × (x ≡ y)
tested true rule place key x y is = (refl, cc)
tested false rule place key x y is = cc

-- a value that a check accepted, or the default
pub found_ok : {A : Type 0} (check : Data → Checked A) (test : A → Bool) (default : A) → test default ≡ true
    → ((d : Data) (x : A) → check d ≡ Ok x → test x ≡ true) → (o : Option Data) (value : Option A) → found check o ≡ Ok value
    → test (unwrap_or value default) ≡ true
found_ok check test default fits each_fits None v is = let e : v ≡ None = cc in rw e fits
found_ok check test default fits each_fits (Some d) v is =
    let b = bind_ok (check d) (λ x. Ok (Some x)) v is in
    let e : v ≡ Some b.0 = cc (b.2) in
    rw e (each_fits d b.0 b.1)

-- ---- kinds of values

abbrev pub between : ℤ → ℤ → ℤ → Bool
between low high n = int_le low n && int_le n high

integer_ok : (place : Place) (key : KeyName) (low high : ℤ) (d : Data) (n : ℤ) → integer place key low high d ≡ Ok n
    → between low high n ≡ true
integer_ok place key low high d n is =
    let a = bind_ok (any_integer place key d) (λ n. expect (between low high n) OutOfRange place key >>= λ _. Ok n) n is in
    let t = tested (between low high a.0) OutOfRange place key a.0 n a.2 in
    rw (← t.1) t.0

pub required_integer_ok : (place : Place) (key : KeyName) (low high : ℤ) (ms : Members) (n : ℤ)
    → required_integer place key low high ms ≡ Ok n → between low high n ≡ true
unfolding required_integer
required_integer_ok place key low high ms n is =
    let a = bind_ok (expect_some (value_of key ms) MissingKey place key) (integer place key low high) n is in
    integer_ok place key low high a.0 n a.2

pub integer_or_ok : (place : Place) (key : KeyName) (low high default : ℤ) (ms : Members) (n : ℤ) → between low high default ≡ true
    → integer_or place key low high default ms ≡ Ok n → between low high n ≡ true
unfolding integer_or optional_integer
integer_or_ok place key low high default ms n fits is =
    let a = bind_ok (optional_integer place key low high ms) (λ v. Ok (unwrap_or v default)) n is in
    let t = found_ok (integer place key low high) (between low high) default fits (λ d x e. integer_ok place key low high d x e)
    (value_of key ms) a.0 a.1 in
    rw (← same_ok (unwrap_or a.0 default) n a.2) t

pub optional_some : (place : Place) (key : KeyName) (low high : ℤ) (ms : Members) (n : ℤ)
    → optional_integer place key low high ms ≡ Ok (Some n) → between low high n ≡ true
unfolding optional_integer
optional_some place key low high ms n is = found_some (integer place key low high) (between low high)
    (λ d x e. integer_ok place key low high d x e) (value_of key ms) n is
  where
    found_some : {A : Type 0} (check : Data → Checked A) (test : A → Bool) → ((d : Data) (x : A) → check d ≡ Ok x → test x ≡ true)
        → (o : Option Data) (x : A) → found check o ≡ Ok (Some x) → test x ≡ true
    found_some check test fits None x is = cc
    found_some check test fits (Some d) x is =
        let b = bind_ok (check d) (λ x. Ok (Some x)) (Some x) is in
        let e : b.0 ≡ x = cc (b.2) in
        rw (← e) (fits d b.0 b.1)

count_between : (low high : ℕ) (n : ℤ) → between (pos low) (pos high) n ≡ true → (low ≤ unsigned_abs n) × (unsigned_abs n ≤ high)
count_between low high (pos n) t = (grind (arith, ints, nat_tests), grind (arith, ints, nat_tests))
count_between low high (negsuc n) t = (absurd (grind (arith, ints, nat_tests)), absurd (grind (arith, ints, nat_tests)))

count_test : (low high n : ℕ) → low ≤ n → n ≤ high → between (pos low) (pos high) (pos n) ≡ true
count_test low high n h k = grind (arith, ints, nat_tests)

pub count_or_ok : (place : Place) (key : KeyName) (low high default : ℕ) (ms : Members) (n : ℕ) → low ≤ default → default ≤ high
    → count_or place key low high default ms ≡ Ok n → (low ≤ n) × (n ≤ high)
unfolding count_or
count_or_ok place key low high default ms n h k is =
    let a = bind_ok (integer_or place key (pos low) (pos high) (pos default) ms) (λ n. Ok (unsigned_abs n)) n is in
    let t = integer_or_ok place key (pos low) (pos high) (pos default) ms a.0 (count_test low high default h k) a.1 in
    rw (← same_ok (unsigned_abs a.0) n a.2) (count_between low high a.0 t)

vector_ok : (place : Place) (key : KeyName) (limit : ℤ) (d : Data) (v : Vec3) → vector place key limit d ≡ Ok v → is_within limit v ≡ true
vector_ok place key limit d v is =
    let a = bind_ok (expect_some (three_integers d) WrongType place key)
    (λ v. expect (is_within limit v) OutOfRange place key >>= λ _. Ok v) v is in
    let t = tested (is_within limit a.0) OutOfRange place key a.0 v a.2 in
    rw (← t.1) t.0

pub required_vector_ok : (place : Place) (key : KeyName) (limit : ℤ) (ms : Members) (v : Vec3) → required_vector place key limit ms ≡ Ok v
    → is_within limit v ≡ true
unfolding required_vector
required_vector_ok place key limit ms v is =
    let a = bind_ok (expect_some (value_of key ms) MissingKey place key) (vector place key limit) v is in
    vector_ok place key limit a.0 v a.2

pub vector_or_ok : (place : Place) (key : KeyName) (limit : ℤ) (default : Vec3) (ms : Members) (v : Vec3) → is_within limit default ≡ true
    → vector_or place key limit default ms ≡ Ok v → is_within limit v ≡ true
unfolding vector_or
vector_or_ok place key limit default ms v fits is =
    let a = bind_ok (found (vector place key limit) (value_of key ms)) (λ w. Ok (unwrap_or w default)) v is in
    let t = found_ok (vector place key limit) (is_within limit) default fits (λ d x e. vector_ok place key limit d x e)
    (value_of key ms) a.0 a.1 in
    rw (← same_ok (unwrap_or a.0 default) v a.2) t

-- ---- what is read one after another

-- a fact of the items so far, kept by each item that is read
pub each_keeps : {X A : Type 0} (read : List A → X → Checked A) (P : List A → Type 0)
    → ((front : List A) (x : X) (y : A) → P front → read front x ≡ Ok y → P (front ++ y ∷ []))
    → (before : List A) (xs : List X) (ys : List A)
    → P before → each read before xs ≡ Ok ys → P ys
unfolding each
each_keeps read P next before [] ys held is = subst P (same_ok before ys is) held
each_keeps read P next before (x ∷ xs) ys held is =
    let b = bind_ok (read before x) (λ y. each read (before ++ y ∷ []) xs) ys is in
    each_keeps read P next (before ++ b.0 ∷ []) xs ys (next before x b.0 held b.1) b.2

pub each_count : {X A : Type 0} (read : List A → X → Checked A) (before : List A) (xs : List X) (ys : List A) → each read before xs ≡ Ok ys
    → length ys ≡ length before + length xs
unfolding each
each_count read before [] ys is = let e = same_ok before ys is in rw (← e) (omega arith)
each_count read before (x ∷ xs) ys is =
    let b = bind_ok (read before x) (λ y. each read (before ++ y ∷ []) xs) ys is in
    let rest = each_count read (before ++ b.0 ∷ []) xs ys b.2 in
    omega (arith, rest, length-append before (b.0 ∷ []))

-- all pass a test that each item passes
pub each_pass : {X A : Type 0} (read : List A → X → Checked A) (test : A → Bool)
    → ((front : List A) (x : X) (y : A) → read front x ≡ Ok y → test y ≡ true) → (xs : List X) (ys : List A) → each read [] xs ≡ Ok ys
    → list_all test ys ≡ true
each_pass read test fits xs ys is = each_keeps read (λ front. list_all test front ≡ true)
    (λ front x y held e. rw (list_all-append test front (y ∷ []), held, fits front x y e) refl) [] xs ys refl is

-- an array of a table has at most so many entries
few_entries : (table : TableName) (most : ℕ) (ms : Members) (ds : List Data) → entries_of table most ms ≡ Ok ds → length ds ≤ most
unfolding entries_of
few_entries table most ms ds is =
    let a = bind_ok (found (entries table most) (get_member (table_text table) ms)) (λ v. Ok (unwrap_or v [])) ds is in
    let t = found_ok (entries table most) (λ ds. nat_le (length ds) most) [] (few_none most) (λ d x e. few_of table most d x e)
    (get_member (table_text table) ms) a.0 a.1 in
    rw (← same_ok (unwrap_or a.0 []) ds a.2) (leb-true (length (unwrap_or a.0 [])) most t)
  where
    few_none : (most : ℕ) → nat_le 0 most ≡ true
    few_none most = grind (arith, nat_tests)

    few_of : (table : TableName) (most : ℕ) (d : Data) (ds : List Data) → entries table most d ≡ Ok ds → nat_le (length ds) most ≡ true
    few_of table most d ds is =
        let a = bind_ok (expect_some (array_of d) WrongType (at table 0) keys.NoKey)
        (λ ds. expect (nat_le (length ds) most) TooMany (at table 0) keys.NoKey >>= λ _. Ok ds) ds is in
        let t = tested (nat_le (length a.0) most) TooMany (at table 0) keys.NoKey a.0 ds a.2 in
        rw (← t.1) t.0

-- an entry that is accepted was read from its members
entry_read : {A P : Type 0} (table : TableName) (read : List A → Place → Members → Checked A) (front : List A) (d : Data) (y : A)
    → entry_of table read front d ≡ Ok y → ((place : Place) (ms : Members) → read front place ms ≡ Ok y → P) → P
unfolding entry_of
entry_read table read front d y is k =
    let place = at table (length front) in
    through (entry place d) _ y is (λ ms known is_read. k place ms is_read)

-- the entries of a table: few, and each passes
pub table_pass : {A : Type 0} (table : TableName) (most : ℕ) (read : List A → Place → Members → Checked A) (test : A → Bool)
    → ((front : List A) (place : Place) (ms : Members) (y : A) → read front place ms ≡ Ok y → test y ≡ true) → (ms : Members) (ys : List A)
    → table_of table most read ms ≡ Ok ys → (list_all test ys ≡ true) × (length ys ≤ most)
unfolding table_of
table_pass table most read test fits ms ys is =
    let ds = bind_ok (entries_of table most ms) (λ ds. each (entry_of table read) [] ds) ys is in
    let pass = each_pass (entry_of table read) test
    (λ front d y e. entry_read table read front d y e (λ place ms is_read. fits front place ms y is_read)) ds.0 ys ds.2 in
    (pass, omega (arith, each_count (entry_of table read) [] ds.0 ys ds.2, few_entries table most ms ds.0 ds.1))

-- the same of a fact of the entries together
pub table_keeps : {A : Type 0} (table : TableName) (most : ℕ) (read : List A → Place → Members → Checked A) (P : List A → Type 0)
    → ((front : List A) (place : Place) (ms : Members) (y : A) → P front → read front place ms ≡ Ok y → P (front ++ y ∷ [])) → P []
    → (ms : Members) (ys : List A) → table_of table most read ms ≡ Ok ys → P ys
unfolding table_of
table_keeps table most read P next none ms ys is =
    let ds = bind_ok (entries_of table most ms) (λ ds. each (entry_of table read) [] ds) ys is in
    each_keeps (entry_of table read) P
    (λ front d y held e. entry_read table read front d y e (λ place ms is_read. next front place ms y held is_read)) [] ds.0 ys none ds.2

-- the same where what is read passes a test
pub each_keeps_where : {X A : Type 0} (read : List A → X → Checked A) (test : X → Bool) (P : List A → Type 0)
    → ((front : List A) (x : X) (y : A) → test x ≡ true → P front → read front x ≡ Ok y → P (front ++ y ∷ []))
    → (before : List A) (xs : List X) (ys : List A) → list_all test xs ≡ true → P before → each read before xs ≡ Ok ys → P ys
unfolding each
each_keeps_where read test P next before [] ys pass held is = subst P (same_ok before ys is) held
each_keeps_where read test P next before (x ∷ xs) ys pass held is =
    let b = bind_ok (read before x) (λ y. each read (before ++ y ∷ []) xs) ys is in
    let parts = and_parts (test x) (list_all test xs) pass in
    each_keeps_where read test P next (before ++ b.0 ∷ []) xs ys parts.1 (next before x b.0 parts.0 held b.1) b.2
