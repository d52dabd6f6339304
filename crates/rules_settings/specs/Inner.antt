-- What only inner contracts cite: nobody needs to believe it.
use Rattle.std.specs.Prelude.{min, pos}
use Rattle.numbers.specs.Integers.{up}
use Rattle.rules_settings.specs.declared.Settings.{Settings}
use Rattle.rules_settings.specs.declared.Given.{Given}

-- as far as the types hold them: proofs/Narrowing.antt shows that those in their ranges stay as given
abbrev pub narrowed_of : Given → Settings
narrowed_of g =
    record {
      domain = g.domain;
      own = g.own;
      announce = min 255 (up g.announce);
      sync = min 255 (up g.sync);
      kp = min 65_535 (up g.kp);
      ki = min 65_535 (up g.ki);
      limit = record { 0 = pos (min 2_147_483_647 (up g.limit)) };
      watch =
          record {
            window = min 255 (up g.window);
            minimum = min 255 (up g.minimum);
            holdoff = min 255 (up g.holdoff);
            tolerance = min 4_294_967_295 (up g.tolerance);
            spike = min 4_294_967_295 (up g.spike);
            jump = min 4_294_967_295 (up g.jump);
          };
    }
