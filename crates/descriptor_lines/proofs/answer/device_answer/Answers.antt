use Rattle.std.proofs.Common.{◌≡◌, ◌∷◌, [], ◌++◌, ℕ, List, OnOk, codes, string_bytes, append_assoc, rules}
use Rattle.std.specs.Fmt.{decimal}
use Rattle.descriptor_lines.proofs.answer.device_answer.Goals as goal

abbrev text_of : (created destroyed asked released : ℕ) → List ℕ
text_of created destroyed asked released =
    codes "device created " ++ decimal created ++ codes " destroyed " ++ decimal destroyed ++ codes " asked " ++ decimal asked ++ codes " released " ++ decimal released ++ 10 ∷ []

pub returns : goal.returns
returns g c =
    let written : OnOk c.writeln.result (string_bytes c.writeln.new.self ≡ string_bytes c.args.answer.now ++ text_of c.created-created.result c.destroyed-destroyed.result c.asked-asked.result c.released-released.result) = search (rules, append_assoc) in
    rw (c.created-created.ensures, c.destroyed-destroyed.ensures, c.asked-asked.ensures, c.released-released.ensures) at written
