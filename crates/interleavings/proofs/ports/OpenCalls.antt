-- Open calls under other ports: what a server finds, closes and replies is the same under these.
use Rattle.std.proofs.Common.{◌≡◌, ℕ, Bool, true, false, cond, List, [], ◌∷◌, ◌++◌, map, Option, None, Some, refl, ap}
use Rattle.std.proofs.Common.{◌∙◌}
use Rattle.std.specs.Prelude.{◌==◌, min, option_map}
use Rattle.table.specs.declared.operations.Reply.{Reply}
use Rattle.versions.specs.Entries.{LogEntry}
use Rattle.node.specs.declared.messages.Output.{Output}
use Rattle.node.specs.declared.servers.OpenUpdate.{OpenUpdate}
use Rattle.node.specs.declared.servers.OpenRead.{OpenRead}
use Rattle.node.specs.Reading.{open_read, without_read}
use Rattle.node.specs.Steps.{least_open}
use Rattle.node.specs.Numbering.{open_update, without_update, left_open_by, left_open, replied, reply_to, replies}
use Rattle.interleavings.specs.Ports.{with_port, read_with_port, output_to}

module _ (f : ℕ → ℕ) where
  -- the update of an id is the same one
  pub open_update_renamed : (us : List OpenUpdate) (id : ℕ)
      → open_update (map (with_port f) us) id ≡ option_map (with_port f) (open_update us id)
  open_update_renamed [] id = refl
  open_update_renamed (u ∷ us) id = by (u.id == id) (open_update_renamed us id)
    where
      by : (b : Bool) → open_update (map (with_port f) us) id ≡ option_map (with_port f) (open_update us id)
          → cond b (Some (with_port f u)) (open_update (map (with_port f) us) id)
          ≡ option_map (with_port f) (cond b (Some u) (open_update us id))
      by true e = refl
      by false e = e

  -- without it the others are the same
  pub without_update_renamed : (us : List OpenUpdate) (id : ℕ)
      → without_update (map (with_port f) us) id ≡ map (with_port f) (without_update us id)
  without_update_renamed [] id = refl
  without_update_renamed (u ∷ us) id = by (u.id == id) (without_update_renamed us id)
    where
      by : (b : Bool) → without_update (map (with_port f) us) id ≡ map (with_port f) (without_update us id)
          → cond b (map (with_port f) us) (with_port f u ∷ without_update (map (with_port f) us) id)
          ≡ map (with_port f) (cond b us (u ∷ without_update us id))
      by true e = refl
      by false e = ap (λ vs. with_port f u ∷ vs) e

  -- and so it is after an entry was acknowledged,
  pub left_open_by_renamed : (me : ℕ) (us : List OpenUpdate) (e : LogEntry)
      → left_open_by me (map (with_port f) us) e ≡ map (with_port f) (left_open_by me us e)
  left_open_by_renamed me us e = by (e.origin == me)
    where
      by : (b : Bool) → cond b (without_update (map (with_port f) us) e.id) (map (with_port f) us)
          ≡ map (with_port f) (cond b (without_update us e.id) us)
      by true = without_update_renamed us e.id
      by false = refl

  -- and after several
  pub left_open_renamed : (me : ℕ) (us : List OpenUpdate) (es : List LogEntry)
      → left_open me (map (with_port f) us) es ≡ map (with_port f) (left_open me us es)
  unfolding left_open
  left_open_renamed me us [] = refl
  left_open_renamed me us (e ∷ es) =
      ap (λ vs. left_open me vs es) (left_open_by_renamed me us e) ∙ left_open_renamed me (left_open_by me us e) es

  replied_renamed : (reply : Reply) (o : Option OpenUpdate)
      → replied reply (option_map (with_port f) o) ≡ map (output_to f) (replied reply o)
  replied_renamed reply None = refl
  replied_renamed reply (Some u) = refl

  reply_to_renamed : (me : ℕ) (us : List OpenUpdate) (e : LogEntry)
      → reply_to me (map (with_port f) us) e ≡ map (output_to f) (reply_to me us e)
  reply_to_renamed me us e = by (e.origin == me)
    where
      by : (b : Bool) → cond b (replied e.reply (open_update (map (with_port f) us) e.id)) []
          ≡ map (output_to f) (cond b (replied e.reply (open_update us e.id)) [])
      by true = ap (replied e.reply) (open_update_renamed us e.id) ∙ replied_renamed e.reply (open_update us e.id)
      by false = refl

  -- joined outputs
  pub both_renamed : (os ps : List Output) → map (output_to f) os ++ map (output_to f) ps ≡ map (output_to f) (os ++ ps)
  both_renamed [] ps = refl
  both_renamed (o ∷ os) ps = ap (λ qs. output_to f o ∷ qs) (both_renamed os ps)

  -- the replies go to the new ports
  pub replies_renamed : (me : ℕ) (us : List OpenUpdate) (es : List LogEntry)
      → replies me (map (with_port f) us) es ≡ map (output_to f) (replies me us es)
  unfolding replies
  replies_renamed me us [] = refl
  replies_renamed me us (e ∷ es) =
      ap (λ os. os ++ replies me (left_open_by me (map (with_port f) us) e) es) (reply_to_renamed me us e)
      ∙ ap (λ vs. map (output_to f) (reply_to me us e) ++ replies me vs es) (left_open_by_renamed me us e)
      ∙ ap (λ os. map (output_to f) (reply_to me us e) ++ os) (replies_renamed me (left_open_by me us e) es)
      ∙ both_renamed (reply_to me us e) (replies me (left_open_by me us e) es)

  -- ---- reads

  -- the read of an ask is the same one
  pub open_read_renamed : (rs : List OpenRead) (ask : ℕ)
      → open_read (map (read_with_port f) rs) ask ≡ option_map (read_with_port f) (open_read rs ask)
  open_read_renamed [] ask = refl
  open_read_renamed (r ∷ rs) ask = by (r.ask == ask) (open_read_renamed rs ask)
    where
      by : (b : Bool) → open_read (map (read_with_port f) rs) ask ≡ option_map (read_with_port f) (open_read rs ask)
          → cond b (Some (read_with_port f r)) (open_read (map (read_with_port f) rs) ask)
          ≡ option_map (read_with_port f) (cond b (Some r) (open_read rs ask))
      by true e = refl
      by false e = e

  -- without it the others are the same
  pub without_read_renamed : (rs : List OpenRead) (ask : ℕ)
      → without_read (map (read_with_port f) rs) ask ≡ map (read_with_port f) (without_read rs ask)
  without_read_renamed [] ask = refl
  without_read_renamed (r ∷ rs) ask = by (r.ask == ask) (without_read_renamed rs ask)
    where
      by : (b : Bool) → without_read (map (read_with_port f) rs) ask ≡ map (read_with_port f) (without_read rs ask)
          → cond b (map (read_with_port f) rs) (read_with_port f r ∷ without_read (map (read_with_port f) rs) ask)
          ≡ map (read_with_port f) (cond b rs (r ∷ without_read rs ask))
      by true e = refl
      by false e = ap (λ qs. read_with_port f r ∷ qs) e

  -- the least lower bound is the same
  pub least_open_renamed : (acked : ℕ) (rs : List OpenRead)
      → least_open acked (map (read_with_port f) rs) ≡ least_open acked rs
  least_open_renamed acked [] = refl
  least_open_renamed acked (r ∷ rs) = ap (λ n. min r.lower_bound n) (least_open_renamed acked rs)
