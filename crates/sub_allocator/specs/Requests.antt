-- A request as the model takes it, that it is of 64-bit words, and what is known of one without a fault. Assumes nothing.
use Rattle.std.specs.Prelude.{ℕ, ◌≤◌, true, List, [], ◌∷◌, ◌≡◌, refl}
use Rattle.std.proofs.Common.{eq-eqb}
use Rattle.std.specs.Borrow.{u64}
use denote.Laws.{Is}
use denote.Struct.Struct.{Struct}
use mir.Val.{Val}
use Rattle.laws.specs.Powers.{Pow2, ones_of_pow2}
use Rattle.pages.specs.Pages.{is_power_of_two}
use Rattle.model.specs.Placing.{Request, fault}
use Rattle.model.specs.Requests.{Words}
use Rattle.model.proofs.Requests.{no_fault}
use Rattle.sub_allocator.specs.declared.request.Request as declared

abbrev pub request_of : declared.Request → Request
request_of r = record {
  size = r.size;
  alignment = r.alignment;
  kind = r.kind;
  granularity = r.granularity;
  label = r.label;
}

-- Each field of it is the code's own.
pub fields-kept : (r : declared.Request) → ((request_of r).size ≡ r.size) × ((request_of r).alignment ≡ r.alignment)
    × ((request_of r).kind ≡ r.kind) × ((request_of r).granularity ≡ r.granularity) × ((request_of r).label ≡ r.label)
fields-kept r = (refl, refl, refl, refl, refl)

-- a request as the code holds one, in some machine values: a struct of five `u64`
abbrev pub Typed : declared.Request → List Val → Type 0
Typed r vs =
    Is (Struct record { name = []; args = []; types = []; fields = u64 ∷ u64 ∷ u64 ∷ u64 ∷ u64 ∷ [] })
    (r.size, (r.alignment, (r.kind, (r.granularity, (r.label, tt))))) vs

-- Every one of them is of 64-bit words.
pub request-words : (r : declared.Request) (vs : List Val) → Typed r vs → Words (request_of r)
request-words r vs g = record { alignment = g.1.1.1.0.1; granularity = g.1.1.1.1.1.0.1 }

power : {x : ℕ} → Pow2 x → is_power_of_two x ≡ true
unfolding is_power_of_two
power {x} p = eq-eqb _ _ (ones_of_pow2 x p)

-- Of a request without a fault the tests of its parts pass.
pub fault-free : (r : Request) → fault r ≡ 0
    → (1 ≤ r.size) × (is_power_of_two r.alignment ≡ true) × (is_power_of_two r.granularity ≡ true)
fault-free r e =
    let h = (no_fault r).0 e in
    (h.size, power h.alignment, power h.granularity)
