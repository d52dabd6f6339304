-- What a walk cites of a type of plain data, as one record, and of a field of a struct of it. All laws are of any type; they say nothing of the door.
--     Plain R τ        R's values are one machine value, of the MIR type τ: which it is (`val`), that it is no other (`tells`), that it is of the type, and that its relation makes what is owned
--     number ..        the record of an unsigned and of a signed number, of a bool, of `()`, of an array of such a type, of a struct and of an enum
--     Field p f n      field n of a struct: where it lies (`off`), its value (`get`), and that its machine value and its relation are the struct's
--     Put F            the struct with another value in that field
-- Assumes nothing.
use mathlib.Core.Path.{◌≡◌, refl, ap, subst}
use Prim.Native.Nat.{ℕ, zero}
use mathlib.Core.List.{List, [], ◌∷◌, map}
use mathlib.Core.Option.{Option, some, none}
use seplogic.Ra.Ura.{Ura}
use lib.Dec.{T}
use mir.Syntax.{Width, Ty, Tys, Sym, tnil, ty_struct, ty_int, ty_bool, ty_float, ty_ptr, ty_ref, ty_array, ty_unit, ty_enum, ty_param, ty_const, ty_array_p, ty_named}
use mir.Val.{Val, vunit, vbool, vint, vfloat, vptr, vstruct, vcode, Vals, vnil, WT, has_ty, of_z}
use mir.Fields.{get_v, set_v}
use prog.Memory.{field_at}
use types.Logic.{Logic}
use denote.RattleType.{RattleType}
use denote.Laws.{Is, Typed, Tells, Lawful, Makes}
use denote.Lowered.{Lowered}
use denote.Plain.{UInt, uint_Tells, uint_Lawful, uint_Makes, Boolean, bool_Tells, bool_Lawful, bool_Makes, Nothing, Nothing-Tells, Nothing-Lawful, Nothing-Makes}
use denote.Signed.{SInt, sint_Tells, sint_Lawful, sint_Makes}
use denote.Array.{Array, array_val, Array-Tells, Array-Lawful, Array-Makes}
use denote.Struct.Declared as struct_type
use denote.Struct.Struct.{Plains}
use denote.Struct.Laws as struct_laws
use denote.Enum.Declared as enum_type
use denote.Enum.Enum.{Few, Plainss}
use denote.Enum.Laws as enum_laws

pub record Plain (R : RattleType) (τ : Ty) : Type 2 where
  pub lies : R.mir ≡ τ ∷ []
  pub val : R.Denot → Val
  pub tells : Tells R (Is R) (λ x. val x ∷ [])
  pub lawful : {M : Type 1} {𝓤 : Ura M} (𝓛 : Logic 𝓤) → Lawful 𝓛 R
  pub makes : {M : Type 1} {𝓤 : Ura M} (𝓛 : Logic 𝓤) → Makes 𝓛 R (Is R)

-- of its record: the type's values, its MIR type, its row
abbrev pub of : {R : RattleType} {τ : Ty} → Plain R τ → Type 0
of {R} p = R.Denot

abbrev pub ty : {R : RattleType} {τ : Ty} → Plain R τ → Ty
ty {τ = τ} p = τ

abbrev pub row_of : {R : RattleType} {τ : Ty} → Plain R τ → RattleType
row_of {R} p = R

-- a value that has a machine value: what its type's relation says of it. A record, so that a walk's text names the value and its type and nothing is unfolded
pub record Fits {R : RattleType} {τ : Ty} (p : Plain R τ) (x : R.Denot) : Type 0 where
  pub is : Is R x (p.val x ∷ [])

pub fits : {R : RattleType} {τ : Ty} (p : Plain R τ) (x : R.Denot) (vs : List Val) → Is R x vs → Fits p x
fits {R} p x vs g = record { is = subst (Is R x) (p.tells x vs g) g }

-- it is of its MIR type, as a store asks
pub typed : {R : RattleType} {τ : Ty} {p : Plain R τ} {M : Type 1} {𝓤 : Ura M} (𝓛 : Logic 𝓤) {x : R.Denot} → Fits p x → T (has_ty τ (p.val x)) × WT (p.val x)
typed {p = p} {𝓤 = 𝓤} 𝓛 {x} g = (subst (λ (τs : List Ty). Typed τs (p.val x ∷ [])) p.lies ((p.lawful 𝓛).typed x (p.val x ∷ []) g.is)).0

-- ---- the types
abbrev pub unsigned : (w : Width) → Plain (UInt w) (ty_int w)
unsigned w = record { lies = refl; val = vint w; tells = uint_Tells w; lawful = λ 𝓛. uint_Lawful 𝓛 w; makes = λ 𝓛. uint_Makes 𝓛 w }

abbrev pub signed : (w : Width) → Plain (SInt w) (ty_int w)
signed w = record { lies = refl; val = λ z. vint w (of_z w z); tells = sint_Tells w; lawful = λ 𝓛. sint_Lawful 𝓛 w; makes = λ 𝓛. sint_Makes 𝓛 w }

abbrev pub truth : Plain Boolean ty_bool
truth = record { lies = refl; val = vbool; tells = bool_Tells; lawful = λ 𝓛. bool_Lawful 𝓛; makes = λ 𝓛. bool_Makes 𝓛 }

abbrev pub void : Plain Nothing ty_unit
void = record { lies = refl; val = λ _. vunit; tells = Nothing-Tells; lawful = λ 𝓛. Nothing-Lawful 𝓛; makes = λ 𝓛. Nothing-Makes 𝓛 }

abbrev pub array : {R : RattleType} {τ : Ty} (p : Plain R τ) (n : ℕ) {σ : Ty} → (Array R n).mir ≡ σ ∷ [] → Plain (Array R n) σ
array {R} p n e = record { lies = e; val = λ xs. array_val (map p.val xs); tells = Array-Tells R (λ x. p.val x ∷ []) p.tells n; lawful = λ 𝓛. Array-Lawful 𝓛 R (p.lawful 𝓛) n; makes = λ 𝓛. Array-Makes 𝓛 R (p.makes 𝓛) n }

abbrev pub struct : (T : struct_type.Declared) (L : struct_laws.Laws T) (low : Lowered (struct_type.row T)) → Plains (struct_type.fields T) → Plain (struct_type.row T) low.mir
struct T L low only-facts = record { lies = low.layout_is; val = low.lowered; tells = low.val_is; lawful = λ 𝓛. struct_laws.lawful T L 𝓛; makes = λ 𝓛. struct_laws.makes T only-facts 𝓛 }

abbrev pub enum : (T : enum_type.Declared) (L : enum_laws.Laws T) (low : Lowered (enum_type.row T)) → Plainss (enum_type.variants T) → Few (enum_type.shape T) → Plain (enum_type.row T) low.mir
enum T L low only-facts few = record { lies = low.layout_is; val = low.lowered; tells = low.val_is; lawful = λ 𝓛. enum_laws.lawful T L 𝓛 few; makes = λ 𝓛. enum_laws.makes T only-facts 𝓛 }

-- ---- a struct's MIR type and its machine value, taken apart
abbrev pub tys-of : Ty → Tys
tys-of (ty_struct ν τs) = τs
tys-of (ty_int w) = tnil
tys-of ty_bool = tnil
tys-of (ty_float φ) = tnil
tys-of ty_ptr = tnil
tys-of (ty_ref ℓ m t) = tnil
tys-of (ty_array t n) = tnil
tys-of ty_unit = tnil
tys-of (ty_enum ν τss) = tnil
tys-of (ty_param i) = tnil
tys-of (ty_const n) = tnil
tys-of (ty_array_p t i) = tnil
tys-of (ty_named h θ) = tnil

abbrev pub name_of : Ty → Sym
name_of (ty_struct ν τs) = ν
name_of (ty_int w) = []
name_of ty_bool = []
name_of (ty_float φ) = []
name_of ty_ptr = []
name_of (ty_ref ℓ m t) = []
name_of (ty_array t n) = []
name_of ty_unit = []
name_of (ty_enum ν τss) = []
name_of (ty_param i) = []
name_of (ty_const n) = []
name_of (ty_array_p t i) = []
name_of (ty_named h θ) = []

abbrev pub offset-of : Option (Ty × ℕ) → ℕ
offset-of none = 0
offset-of (some f) = f.1

abbrev pub words : Val → Vals
words (vstruct vs) = vs
words vunit = vnil
words (vbool t) = vnil
words (vint w n) = vnil
words (vfloat f x) = vnil
words (vptr b o) = vnil
words (vcode c) = vnil

-- ---- a field
module _ {R F : RattleType} {τ σ : Ty} (p : Plain R τ) (f : Plain F σ) (n : ℕ) (get : R.Denot → F.Denot) where
  pub record Field : Type 0 where
    pub off : ℕ
    pub ty-is : τ ≡ ty_struct (name_of τ) (tys-of τ)
    pub at : field_at zero (tys-of τ) n ≡ some (σ, off)
    pub val_is : (x : R.Denot) → p.val x ≡ vstruct (words (p.val x))
    pub part-is : (x : R.Denot) → get_v (words (p.val x)) n ≡ f.val (get x)
    pub part : (x : R.Denot) → Fits p x → Fits f (get x)

  pub record Put (P : Field) (put : R.Denot → F.Denot → R.Denot) : Type 0 where
    pub made-is : (x : R.Denot) (y : F.Denot) → vstruct (set_v (words (p.val x)) n (f.val y)) ≡ p.val (put x y)
    pub made : (x : R.Denot) (y : F.Denot) → Fits p x → Fits f y → Fits p (put x y)

-- the library says of an array in a struct that its members are mapped: by nothing
pub map_same : {X : Type 0} (l : List X) → map (λ (v : X). v) l ≡ l
map_same [] = refl
map_same {X} (x ∷ l) = ap (λ (m : List X). x ∷ m) (map_same l)
