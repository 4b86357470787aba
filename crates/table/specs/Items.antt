-- Items and versions as data: their parts, the most bytes of an item, and their codes.
use Rattle.std.specs.Prelude.{ℕ, List, ◌∷◌, length, Option, Some, None, refl}
use Rattle.std.specs.Coded.{Coded, code_by, coded×, coded_ℕ, coded_list, coded_option}

-- An item: the client's own bits, the data, and the number of the operation that put it.
pub record Item : Type 0 where
  pub flags : ℕ
  pub bytes : List ℕ
  pub unique : ℕ

-- A key's version: the number of the operation that made it, and the item that it put, or none.
pub record Version : Type 0 where
  pub number : ℕ
  pub item : Option Item

-- the most bytes of data that an item may hold (this project's rule; memcached's default)
abbrev pub limit : ℕ
limit = 1048576

-- an item is stored as its three fields
abbrev pub coded_item : Coded Item
coded_item = code_by (ℕ × (List ℕ × ℕ)) (coded× coded_ℕ (coded× (coded_list coded_ℕ) coded_ℕ))
    (λ i. (i.flags, (i.bytes, i.unique))) (λ p. record { flags = p.0; bytes = p.1.0; unique = p.1.1 }) (λ _. refl)

-- a version is stored as its two fields
abbrev pub coded_version : Coded Version
coded_version =
    code_by (ℕ × Option Item) (coded× coded_ℕ (coded_option coded_item))
    (λ v. (v.number, v.item)) (λ p. record { number = p.0; item = p.1 }) (λ _. refl)

-- an item as a list of numbers: items are equal exactly if these are
abbrev pub numbers_of : Item → List ℕ
numbers_of i = i.flags ∷ i.unique ∷ i.bytes

-- how many bytes of data there are: none without an item
abbrev pub data_in : Option Item → ℕ
data_in None = 0
data_in (Some item) = length item.bytes
