-- The chains of the buckets: that they hold every slot entered, each under its id. Assumes nothing.
use Rattle.std.proofs.Common.{◌≡◌, ℕ, zero, suc, ◌+◌, ◌-◌, ◌<◌, ◌≤◌, Bool, true, false, cond, not, eqb, ◌≢◌, List, [], ◌∷◌, length, get_or, drop, set, sym, refl, ap, ◌∙◌, ⊎_elim, sub-one, arith, length-set, get_or-set_other, get_or-set_same, eq-eqb, ne_eqb, ◌++◌, replicate}
use Rattle.std.proofs.Math.Seq.{set_out}
use Rattle.std.proofs.lemmas.List.{set-append_left, set-append_right, get_or_append_left, get_or-append_right, get_or-replicate, get_or_past, length-replicate, replicate-append-replicate}
use Rattle.laws.specs.Members.{has, has-head, has_same, has_other, not_head, eq_or_not}
use Rattle.laws.specs.Tests.{cond_cases, either}
use Rattle.table.specs.Layout.{id_at}
use Rattle.words.specs.Ids.{AllAtMost, AllZero, bucket_of, bucket_below, head_of, link_of, chain, Ends, AllEnd, ids_at, on_chain, is_new, entered}

-- ---- the heads and the links as one list

module _ (hs ls : List ℕ) (long : length hs ≡ 512) where
  pub link_read : (k : ℕ) → 1 ≤ k → get_or (hs ++ ls) (link_of k) 0 ≡ get_or ls (k - 1) 0
  link_read k l =
      let e : 511 + k - 512 ≡ k - 1 = omega arith in
      get_or-append_right hs ls 512 (link_of k) 0 long (omega arith) ∙ ap (λ (i : ℕ). get_or ls i 0) e

  head_read : (h : ℕ) → h < 512 → get_or (hs ++ ls) h 0 ≡ get_or hs h 0
  head_read h l = get_or_append_left hs ls 0 h (omega arith)

  head_set : (h x : ℕ) → h < 512 → set (hs ++ ls) h x ≡ set hs h x ++ ls
  head_set h x l = set-append_left hs ls h x (omega arith)

  link_set : (k x : ℕ) → 1 ≤ k → set (hs ++ ls) (link_of k) x ≡ hs ++ set ls (k - 1) x
  link_set k x l =
      let e : 511 + k - 512 ≡ k - 1 = omega arith in
      set-append_right hs ls 512 (link_of k) x long (omega arith) ∙ ap (λ (i : ℕ). hs ++ set ls i x) e

all_zero : (n : ℕ) → AllZero (replicate n 0)
all_zero n i =
    either _ i n
    (λ h. get_or-replicate {A = ℕ} n i 0 0 h)
    (λ h. get_or_past {X = ℕ} (replicate n 0) i 0 (omega (arith, length-replicate {A = ℕ} n 0)))

-- Arrays in which nothing was entered.
pub zeros : (n m : ℕ) → AllZero (replicate n 0 ++ replicate m 0)
zeros n m i = ap (λ (l : List ℕ). get_or l i 0) (replicate-append-replicate {A = ℕ} n m 0) ∙ all_zero (n + m) i

pub zeros_long : (n m : ℕ) → length {A = ℕ} (replicate n 0 ++ replicate m 0) ≡ n + m
zeros_long n m = ap (length {A = ℕ}) (replicate-append-replicate {A = ℕ} n m 0) ∙ length-replicate {A = ℕ} (n + m) 0

-- ---- `on_chain`

ends : (t : List ℕ) (n : ℕ) → chain n t 0 ≡ []
unfolding chain
ends t zero = refl
ends t (suc n) = refl

next : (t : List ℕ) (n k : ℕ) → n ≢ 0 → k ≢ 0 → chain n t k ≡ k ∷ chain (n - 1) t (get_or t (link_of k) 0)
unfolding chain
next t zero k f g = absurd (f refl)
next t (suc n) zero f g = absurd (g refl)
next t (suc n) (suc k) f g = ap (λ (m : ℕ). suc k ∷ chain m t (get_or t (link_of (suc k)) 0)) (sym (sub-one (suc n)))

module _ (ws t : List ℕ) (n k id : ℕ) where
  pub chain-ends : k ≡ 0 → on_chain ws t n k id ≡ false
  unfolding on_chain has
  chain-ends e = ap (λ (l : List ℕ). has id (ids_at ws l)) (ap (chain n t) e ∙ ends t n)

  pub chain-here : n ≢ 0 → k ≢ 0 → id_at ws k ≡ id → on_chain ws t n k id ≡ true
  unfolding on_chain
  chain-here f g e = ap (λ (l : List ℕ). has id (ids_at ws l)) (next t n k f g) ∙ rw e (has-head id _)

  chain-on : n ≢ 0 → k ≢ 0 → id_at ws k ≢ id → on_chain ws t n k id ≡ on_chain ws t (n - 1) (get_or t (link_of k) 0) id
  unfolding on_chain
  chain-on f g e = ap (λ (l : List ℕ). has id (ids_at ws l)) (next t n k f g) ∙ has_other id (id_at ws k) _ e

-- A chain that ended goes no further.
ended : (t : List ℕ) (n k : ℕ) → chain (suc n) t k ≡ chain n t k → chain (suc (suc n)) t k ≡ chain (suc n) t k
unfolding chain
ended t zero zero e = refl
ended t zero (suc k) e = let l : suc zero ≡ zero = ap length e in absurd (omega arith)
ended t (suc n) zero e = refl
ended t (suc n) (suc k) e = ap (λ (l : List ℕ). suc k ∷ l) (ended t n (get_or t (link_of (suc k)) 0) (ap (drop 1) e))

-- The chain goes on by a link, one slot shorter.
module _ (t : List ℕ) (k j : ℕ) (linked : get_or t (link_of k) 0 ≡ j) (some : k ≢ 0) (ends-k : Ends t k) where
  step : (n : ℕ) → n ≢ 0 → chain n t k ≡ k ∷ chain (n - 1) t j
  step n f = next t n k f some ∙ ap (λ (i : ℕ). k ∷ chain (n - 1) t i) linked

  short : chain 512 t j ≡ chain 511 t j
  short = ap (drop 1) (sym (step 513 (λ (e : 513 ≡ 0). omega arith)) ∙ ends-k ∙ step 512 (λ (e : 512 ≡ 0). omega arith))

  pub ends_on : Ends t j
  ends_on = ended t 511 j short

  pub shorter : length (chain 512 t j) < length (chain 512 t k)
  shorter = omega (arith, ap length (step 512 (λ (e : 512 ≡ 0). omega arith)), ap length short)

  pub chain-after : (ws : List ℕ) (id : ℕ) → id_at ws k ≢ id → on_chain ws t 512 k id ≡ on_chain ws t 512 j id
  unfolding on_chain
  chain-after ws id n =
      chain-on ws t 512 k id (λ (e : 512 ≡ 0). omega arith) some n
      ∙ ap (λ (i : ℕ). has id (ids_at ws (chain 511 t i))) linked
      ∙ ap (λ (l : List ℕ). has id (ids_at ws l)) (sym short)

-- ---- `enter`

-- A head that is written leaves the chains.
chain_head : (t : List ℕ) (h x n k : ℕ) → h < 512 → chain n (set t h x) k ≡ chain n t k
unfolding chain
chain_head t h x zero k l = refl
chain_head t h x (suc n) zero l = refl
chain_head t h x (suc n) (suc k) l =
    ap (λ (j : ℕ). suc k ∷ chain n (set t h x) j) (get_or-set_other t h (link_of (suc k)) x 0 (λ (e : link_of (suc k) ≡ h). omega arith))
    ∙ ap (λ (ks : List ℕ). suc k ∷ ks) (chain_head t h x n (get_or t (link_of (suc k)) 0) l)

ends_head : (t : List ℕ) (h x : ℕ) → h < 512 → AllEnd t → Ends (set t h x) (get_or t h 0)
ends_head t h x l a = chain_head t h x 513 (get_or t h 0) l ∙ a h l ∙ sym (chain_head t h x 512 (get_or t h 0) l)

module _ (ws t : List ℕ) (k id h : ℕ) (e : id ≡ id_at ws k) (f : h ≡ bucket_of id) where
  heads : h ≡ head_of ws k
  heads = f ∙ ap bucket_of e

  by_chain : not (on_chain ws (set t h k) 512 (get_or t h 0) id) ≡ is_new ws t k
  unfolding is_new on_chain
  by_chain =
      ap (λ (ks : List ℕ). not (has id (ids_at ws ks))) (chain_head t h k 512 (get_or t h 0) (rw f (bucket_below id)))
      ∙ ap (λ (i : ℕ). not (has i (ids_at ws (chain 512 t (get_or t h 0))))) e
      ∙ ap (λ (i : ℕ). not (has (id_at ws k) (ids_at ws (chain 512 t (get_or t i 0))))) heads

  met : (b : Bool) → b ≡ on_chain ws (set t h k) 512 (get_or t h 0) id → b ≡ true → false ≡ is_new ws t k
  met b g l = ap not (sym l ∙ g) ∙ by_chain

  not-met : (b : Bool) → b ≡ on_chain ws (set t h k) 512 (get_or t h 0) id → b ≡ false → true ≡ is_new ws t k
  not-met b g l = ap not (sym l ∙ g) ∙ by_chain

  stored : set (set t h k) (link_of k) (get_or t h 0) ≡ entered ws t k
  unfolding entered
  stored = ap (λ (i : ℕ). set (set t i k) (link_of k) (get_or t i 0)) heads

-- ---- what the buckets hold

-- the slots of the list whose ids belong to bucket h
unfoldable pub in_bucket : List ℕ → ℕ → List ℕ → List ℕ
in_bucket ws h [] = []
in_bucket ws h (v ∷ vs) = cond (eqb (head_of ws v) h) (v ∷ in_bucket ws h vs) (in_bucket ws h vs)

-- from the head of each bucket the chain is the slots entered there, the last one first
pub record Chains (ws t vs : List ℕ) : Type 0 where
  pub long : length t ≡ 1024
  pub reach : (h m : ℕ) → h < 512 → length vs ≤ m → chain m t (get_or t h 0) ≡ in_bucket ws h vs

bucket_here : (ws : List ℕ) (h v : ℕ) (vs : List ℕ) → head_of ws v ≡ h → in_bucket ws h (v ∷ vs) ≡ v ∷ in_bucket ws h vs
unfolding in_bucket
bucket_here ws h v vs e = rw (eq-eqb (head_of ws v) h e)

bucket_there : (ws : List ℕ) (h v : ℕ) (vs : List ℕ) → head_of ws v ≢ h → in_bucket ws h (v ∷ vs) ≡ in_bucket ws h vs
unfolding in_bucket
bucket_there ws h v vs n = rw (ne_eqb (head_of ws v) h n)

-- An id is among all exactly when it is among those of its bucket.
bucket_ids : (ws : List ℕ) (id : ℕ) (vs : List ℕ) → has id (ids_at ws (in_bucket ws (bucket_of id) vs)) ≡ has id (ids_at ws vs)
unfolding in_bucket
bucket_ids ws id [] = refl
bucket_ids ws id (v ∷ vs) =
    ⊎_elim
    (λ (e : head_of ws v ≡ bucket_of id).
    ap (λ (l : List ℕ). has id (ids_at ws l)) (bucket_here ws (bucket_of id) v vs e)
    ∙ has_same id (id_at ws v) (ids_at ws (in_bucket ws (bucket_of id) vs)) (ids_at ws vs) (bucket_ids ws id vs))
    (λ n.
    ap (λ (l : List ℕ). has id (ids_at ws l)) (bucket_there ws (bucket_of id) v vs n) ∙ bucket_ids ws id vs
    ∙ sym (has_other id (id_at ws v) (ids_at ws vs) (λ q. n (ap bucket_of q))))
    (eq_or_not (head_of ws v) (bucket_of id))

-- A slot that is not in the list is in no bucket.
bucket_none : (ws : List ℕ) (h k : ℕ) (vs : List ℕ) → has k vs ≡ false → has k (in_bucket ws h vs) ≡ false
unfolding in_bucket
bucket_none ws h k [] e = e
bucket_none ws h k (v ∷ vs) e =
    let n = not_head k v vs e in
    let r = bucket_none ws h k vs (sym (has_other k v vs n) ∙ e) in
    cond_cases (λ (l : List ℕ). has k l ≡ false) (eqb (head_of ws v) h) (λ q. has_other k v (in_bucket ws h vs) n ∙ r) (λ q. r)

pub chains_start : (ws t : List ℕ) → length t ≡ 1024 → AllZero t → Chains ws t []
unfolding in_bucket
chains_start ws t l z = record { long = l; reach = λ h m p q. ap (chain m t) (z h) ∙ ends t m }

pub all_end : (ws t vs : List ℕ) → Chains ws t vs → length vs ≤ 512 → AllEnd t
all_end ws t vs c l h p = c.reach h 513 p (omega arith) ∙ sym (c.reach h 512 p l)

-- Where no slot has the id, it is new to the buckets, and where one has, it is not.
pub new_id : (ws t vs : List ℕ) (k : ℕ) → Chains ws t vs → length vs ≤ 512 → is_new ws t k ≡ not (has (id_at ws k) (ids_at ws vs))
unfolding is_new on_chain
new_id ws t vs k c l =
    ap (λ (ks : List ℕ). not (has (id_at ws k) (ids_at ws ks))) (c.reach (head_of ws k) 512 (bucket_below (id_at ws k)) l)
    ∙ ap not (bucket_ids ws (id_at ws k) vs)

-- ---- a slot is entered

module _ (ws t vs : List ℕ) (k : ℕ) (low : 1 ≤ k) (high : k ≤ 512) (long : length t ≡ 1024) where
  head : head_of ws k < 512
  head = bucket_below (id_at ws k)

  mid : List ℕ
  mid = set t (head_of ws k) k

  mid-long : length mid ≡ 1024
  unfolding mid
  mid-long = length-set t (head_of ws k) k ∙ long

  head-now : get_or (entered ws t k) (head_of ws k) 0 ≡ k
  unfolding entered mid
  head-now =
      get_or-set_other mid (link_of k) (head_of ws k) (get_or t (head_of ws k) 0) 0 (λ (e : head_of ws k ≡ link_of k). omega (arith, head))
      ∙ get_or-set_same t (head_of ws k) k 0 (omega (arith, head))

  head-other : (h : ℕ) → h < 512 → h ≢ head_of ws k → get_or (entered ws t k) h 0 ≡ get_or t h 0
  unfolding entered mid
  head-other h p n = get_or-set_other mid (link_of k) h (get_or t (head_of ws k) 0) 0 (λ (e : h ≡ link_of k). omega arith) ∙ get_or-set_other t (head_of ws k) h k 0 n

  link-now : get_or (entered ws t k) (link_of k) 0 ≡ get_or t (head_of ws k) 0
  unfolding entered mid
  link-now = get_or-set_same mid (link_of k) (get_or t (head_of ws k) 0) 0 (omega (arith, mid-long))

  link-other : (j : ℕ) → 1 ≤ j → j ≢ k → get_or (entered ws t k) (link_of j) 0 ≡ get_or t (link_of j) 0
  unfolding entered mid
  link-other j l n =
      get_or-set_other mid (link_of k) (link_of j) (get_or t (head_of ws k) 0) 0 (λ (e : link_of j ≡ link_of k). n (omega arith))
      ∙ get_or-set_other t (head_of ws k) (link_of j) k 0 (λ (e : link_of j ≡ head_of ws k). omega (arith, head))

  -- A chain without the slot stays.
  chain-kept : (m j : ℕ) → has k (chain m t j) ≡ false → chain m (entered ws t k) j ≡ chain m t j
  unfolding chain
  chain-kept zero j e = refl
  chain-kept (suc m) zero e = refl
  chain-kept (suc m) (suc j) e =
      let n = not_head k (suc j) (chain m t (get_or t (link_of (suc j)) 0)) e in
      ap (λ (i : ℕ). suc j ∷ chain m (entered ws t k) i) (link-other (suc j) (omega arith) n)
      ∙ ap (λ (l : List ℕ). suc j ∷ l) (chain-kept m (get_or t (link_of (suc j)) 0) (sym (has_other k (suc j) _ n) ∙ e))

  -- The chain from the slot is the slot and its bucket's chain.
  chain-now : (m : ℕ) → 1 ≤ m → chain m (entered ws t k) k ≡ k ∷ chain (m - 1) (entered ws t k) (get_or t (head_of ws k) 0)
  chain-now m l =
      next (entered ws t k) m k (λ (e : m ≡ 0). omega arith) (λ (e : k ≡ 0). omega arith)
      ∙ ap (λ (i : ℕ). k ∷ chain (m - 1) (entered ws t k) i) link-now

  pub chains-enter : Chains ws t vs → has k vs ≡ false → Chains ws (entered ws t k) (k ∷ vs)
  unfolding entered mid
  chains-enter c e = record {
    long = length-set mid (link_of k) (get_or t (head_of ws k) 0) ∙ mid-long;
    reach = λ h m p q. ⊎_elim (here h m p q) (there h m p q) (eq_or_not h (head_of ws k));
  }
    where
      kept : (h m : ℕ) → h < 512 → length vs ≤ m → chain m (entered ws t k) (get_or t h 0) ≡ in_bucket ws h vs
      kept h m p q = chain-kept m (get_or t h 0) (ap (has k) (c.reach h m p q) ∙ bucket_none ws h k vs e) ∙ c.reach h m p q

      here : (h m : ℕ) → h < 512 → length (k ∷ vs) ≤ m → h ≡ head_of ws k → chain m (entered ws t k) (get_or (entered ws t k) h 0) ≡ in_bucket ws h (k ∷ vs)
      here h m p q f =
          ap (chain m (entered ws t k)) (ap (λ (i : ℕ). get_or (entered ws t k) i 0) f ∙ head-now)
          ∙ chain-now m (omega arith)
          ∙ ap (λ (l : List ℕ). k ∷ l) (kept (head_of ws k) (m - 1) head (omega arith))
          ∙ sym (ap (λ (i : ℕ). in_bucket ws i (k ∷ vs)) f ∙ bucket_here ws (head_of ws k) k vs refl)

      there : (h m : ℕ) → h < 512 → length (k ∷ vs) ≤ m → h ≢ head_of ws k → chain m (entered ws t k) (get_or (entered ws t k) h 0) ≡ in_bucket ws h (k ∷ vs)
      there h m p q n =
          ap (chain m (entered ws t k)) (head-other h p n)
          ∙ kept h m p (omega arith)
          ∙ sym (bucket_there ws h k vs (λ f. n (sym f)))

-- ---- every head and link stays a slot

within-set : (s : ℕ) (t : List ℕ) (i x : ℕ) → AllAtMost s t → x ≤ s → AllAtMost s (set t i x)
within-set s t i x w l j = ⊎_elim same_place (λ n. rw (get_or-set_other t i j x 0 n) (w j)) (eq_or_not j i)
  where
    same_place : j ≡ i → get_or (set t i x) j 0 ≤ s
    same_place e =
        either _ i (length t)
        (λ h. rw (e, get_or-set_same t i x 0 h) l)
        (λ h. rw (set_out t i x h) (w j))

pub within-entered : (ws t : List ℕ) (s k : ℕ) → AllAtMost s t → k ≤ s → AllAtMost s (entered ws t k)
unfolding entered
within-entered ws t s k w l =
    within-set s (set t (head_of ws k) k) (link_of k) (get_or t (head_of ws k) 0) (within-set s t (head_of ws k) k w l) (w (head_of ws k))

-- ---- a slot is entered in the arrays

module _ (ws hs ls : List ℕ) (k id h : ℕ) (long : length hs ≡ 512) (e : id ≡ id_at ws k) (f : h ≡ bucket_of id) where
  below : h < 512
  below = rw f (bucket_below id)

  first : get_or (hs ++ ls) h 0 ≡ get_or hs h 0
  first = head_read hs ls long h below

  headed : set (hs ++ ls) h k ≡ set hs h k ++ ls
  headed = head_set hs ls long h k below

  pub array-within : (s : ℕ) → AllAtMost s (hs ++ ls) → k ≤ s → AllAtMost s (set hs h k ++ ls)
  array-within s w l i = rw (← headed) (within-set s (hs ++ ls) h k w l i)

  pub array-start : (s : ℕ) → AllAtMost s (hs ++ ls) → get_or hs h 0 ≤ s
  array-start s w = rw (← first) (w h)

  pub array-ends : AllEnd (hs ++ ls) → Ends (set hs h k ++ ls) (get_or hs h 0)
  array-ends a = rw (← headed, ← first) (ends_head (hs ++ ls) h k below a)

  module _ (b : Bool) (g : b ≡ on_chain ws (set hs h k ++ ls) 512 (get_or hs h 0) id) where
    now-met : b ≡ on_chain ws (set (hs ++ ls) h k) 512 (get_or (hs ++ ls) h 0) id
    now-met = rw (headed, first) g

    pub array-met : b ≡ true → false ≡ is_new ws (hs ++ ls) k
    array-met = met ws (hs ++ ls) k id h e f b now-met

    pub array-new : b ≡ false → true ≡ is_new ws (hs ++ ls) k
    array-new = not-met ws (hs ++ ls) k id h e f b now-met

  pub array-stored : 1 ≤ k → set hs h k ++ set ls (k - 1) (get_or hs h 0) ≡ entered ws (hs ++ ls) k
  array-stored l =
      sym (link_set (set hs h k) ls (length-set hs h k ∙ long) k (get_or hs h 0) l)
      ∙ rw (← headed, ← first) (stored ws (hs ++ ls) k id h e f)
